-- A reader with one constant record, of any type and whatever the record, and a walk with one constant count: each is
-- wrong on one of two logs. A writer that leaves a buffer of zeros as it was is wrong on every record that is not
-- refused. Assumes nothing.
use Prim.Native.Nat.{ℕ, zero, suc}
use mathlib.Core.Path.{◌≡◌, refl, ap, ◌∙◌}
use mathlib.Core.List.{List, [], ◌++◌}
use native.Mathlib.Omega.{arith}
use lib.ListN.{length, get_or, length-replicate}
use Rattle.fields.specs.Numbers.{val, num, nums, all_zero, zeros}
use Rattle.fields.specs.Digits.{le, array}
use Rattle.fields.specs.Slots as slots
use Rattle.headers.specs.declared.header.Origin.{Origin}
use Rattle.headers.specs.declared.header.Origin.TheVariants.{First, Second}
use Rattle.headers.specs.Format.{padding, is_first, is_second, length_at, origin_at, header_of, unit_ok}
use Rattle.headers.specs.Types.{Kind, can_message, overload, statistic, receive, lin_message, wake_up, message_two, fd_message, ethernet_status, frame, forwarded_frame, ethernet_error, forwarded_error, number_of, type_list}
use Rattle.headers.specs.TypeFormat.{reserved_of}
use Rattle.headers.specs.Rows.{row_in, allowed}
use Rattle.headers.specs.Header as header
use Rattle.headers.specs.HeadTests.{first, pair_ok, length_fits}
use Rattle.can.specs.Fields as can
use Rattle.can.specs.Tables as can-table
use Rattle.flexray.specs.Fields as flexray
use Rattle.flexray.specs.Tables as flexray-table
use Rattle.lin.specs.Fields as lin
use Rattle.lin.specs.Tail as lin-tail
use Rattle.lin.specs.Tables as lin-table
use Rattle.ethernet.specs.Fields as ethernet
use Rattle.ethernet.specs.Tables as ethernet-table
use Rattle.objects.specs.Answers as walked
use Rattle.objects.specs.Kinds.{Record, layout_of, find}
use Rattle.objects.specs.Items.{known, bytes_of, padded}
use Rattle.objects.specs.Next.{fault_of, answered, next_at}
use Rattle.objects.specs.Stepping.{met_at}
use Rattle.objects.specs.Walk.{walk_of}
use Rattle.outcomes.specs.Reads.{look_at, record_in, record_at}
use Rattle.outcomes.specs.Writes.{refusal_of, buffer_of}
use Rattle.marked_examples.specs.Hex.{hex}
use Rattle.marked_examples.specs.Marked.{m2}
use Rattle.wrong_programs.specs.Samples.{by_client}
use Rattle.wrong_programs.specs.Readers.{counts}
use Rattle.wrong_programs.specs.Records.{constant, writes_nothing}
use Rattle.wrong_programs.specs.Wrong.{walk, read, write, Meets}

-- the client index, which the first header has
abbrev client_by : Origin → ℕ
client_by (First client) = client
client_by (Second status original) = 0

abbrev client_at : (k : Kind) → Record k → ℕ
client_at k r = client_by ((layout_of k).header r).origin

-- the client index that is read is the sample's
client : (k : Kind) → (client_at k (record_at k (by_client k 0) 0) ≡ 0) × (client_at k (record_at k (by_client k 1) 0) ≡ 1)
unfolding by_client hex next_at answered fault_of find is_first is_second length_at origin_at header_of unit_ok reserved_of type_list row_in allowed pair_ok length_fits first padding num val nums le array all_zero slots.bytes_of look_at record_in record_at header.object header.length_by header.header_by header.head can.message_of can.overload_of can.statistic_of can.message_two_of can.fd_message_of can-table.message_slots can-table.overload_slots can-table.statistic_slots can-table.counter_slots can-table.message_two_slots can-table.timing_slots can-table.fd_message_slots flexray.receive_of flexray.counts_ok flexray-table.receive_slots flexray-table.origin_slots flexray-table.slot_slots flexray-table.controller_slots lin.tail_of lin.message_of lin.wake_up_of lin-tail.tail lin-table.message_slots lin-table.synch_slots lin-table.bus_slots lin-table.descriptor_slots lin-table.status_slots lin-table.machine_slots lin-table.wake_up_slots ethernet.status_of ethernet.frame_of ethernet.error_of ethernet-table.status_slots ethernet-table.eight_slots ethernet-table.frame_slots ethernet-table.error_slots ethernet-table.event_slots ethernet-table.origin_slots ethernet-table.transmission_slots
client can_message = (refl, refl)
client overload = (refl, refl)
client statistic = (refl, refl)
client receive = (refl, refl)
client lin_message = (refl, refl)
client wake_up = (refl, refl)
client message_two = (refl, refl)
client fd_message = (refl, refl)
client ethernet_status = (refl, refl)
client frame = (refl, refl)
client forwarded_frame = (refl, refl)
client ethernet_error = (refl, refl)
client forwarded_error = (refl, refl)

pub no_constant_record : (k : Kind) (r : Record k) → Meets (read k (client_at k) (constant k r) (by_client k 0) 0) → Meets (read k (client_at k) (constant k r) (by_client k 1) 0) → ⊥
no_constant_record k r a b =
    let e : client_at k r ≡ 0 = ap (client_at k) a.value ∙ (client k).0 in
    let f : client_at k r ≡ 1 = ap (client_at k) b.value ∙ (client k).1 in
    omega arith

count_0 : walk_of [] ≡ walked.Count 0
unfolding walk_of met_at next_at
count_0 = refl

count_1 : walk_of m2 ≡ walked.Count 1
unfolding m2 hex walk_of met_at next_at answered fault_of find is_first is_second length_at origin_at header_of unit_ok reserved_of type_list row_in allowed pair_ok length_fits first padding num val le all_zero
count_1 = refl

pub no_constant_count : (n : ℕ) → Meets (walk (counts n) []) → Meets (walk (counts n) m2) → ⊥
no_constant_count n a b =
    let e = count_0 in
    let f = count_1 in
    let z : ◌≡◌ {A = ℕ} 0 1 = cc in
    omega arith

first_zero : (n : ℕ) → get_or (zeros n) 0 0 ≡ 0
first_zero zero = refl
first_zero (suc n) = refl

first_byte : (k : Kind) (r : Record k) (out : List ℕ) → get_or (buffer_of 0 (padded (known k r)) out) 0 0 ≡ 76
unfolding bytes_of header.object header.header_by header.head
first_byte k r out = by ((layout_of k).header r).origin _ _ _ _
  where
    by : (o : Origin) (size : ℕ) (a b c : List ℕ) → get_or (((header.header_by (number_of k) size ((layout_of k).header r) o ++ a) ++ b) ++ c) 0 0 ≡ 76
    by (First client) size a b c = refl
    by (Second status original) size a b c = refl

pub something_written : (k : Kind) (r : Record k) (n : ℕ) → refusal_of (known k r) n ≡ 0 → Meets (write writes_nothing (known k r) (zeros n)) → ⊥
something_written k r n e m =
    let l = length-replicate {A = ℕ} n 0 in
    let f : refusal_of (known k r) (length (zeros n)) ≡ 0 = rw l e in
    let g = first_byte k r (zeros n) in
    let h = first_zero n in
    let b : zeros n ≡ buffer_of 0 (padded (known k r)) (zeros n) = rw f at m.buffer in
    let z : ◌≡◌ {A = ℕ} 0 76 = cc in
    omega arith
