-- 01, "Marked examples", proved together: one computed test of the whole table. Assumes nothing.
use mathlib.Core.Path.{◌≡◌, refl}
use Rattle.fields.specs.Numbers.{num, val, big, all_zero}
use Rattle.fields.specs.Digits.{le}
use Rattle.fields.specs.Wrong.{leading, wrong_in}
use Rattle.headers.specs.Format.{is_first, is_second, length_at, origin_at, header_of, padding, unit_ok}
use Rattle.headers.specs.TypeFormat.{reserved_of}
use Rattle.headers.specs.Types.{type_list}
use Rattle.headers.specs.Rows.{row_in, allowed}
use Rattle.headers.specs.HeadTests.{first, pair_ok, length_fits}
use Rattle.can.specs.Fields.{overload_of}
use Rattle.objects.specs.Kinds.{find}
use Rattle.objects.specs.Next.{fault_of, place_in, answered, next_at}
use Rattle.objects.specs.Stepping.{met_at}
use Rattle.objects.specs.Walk.{walk_of}
use Rattle.outcomes.specs.Reads.{look_at, record_in, record_at}
use Rattle.slips.specs.Cut as cut
use Rattle.slips.specs.Cut.{shape_ok, cut_of}
use Rattle.slips.specs.Soonest.{trouble_of}
use Rattle.slips.specs.Check.{check_of}
use Rattle.marked_examples.specs.Hex.{hex}
use Rattle.marked_examples.specs.Questions.{reply}
use Rattle.marked_examples.specs.Marked.{m2, m3, m9, m11, marked, replies, told_in}

pub marked_examples : replies marked ≡ told_in marked
unfolding marked m2 m3 m9 m11 hex reply walk_of met_at next_at answered fault_of place_in reserved_of wrong_in leading find is_first is_second length_at origin_at header_of unit_ok type_list row_in allowed pair_ok length_fits first padding num val le all_zero look_at record_in record_at overload_of check_of cut_of cut.fault_of shape_ok big trouble_of
marked_examples = refl
