-- `asc_lines::told::Body::frame` meets its contract: the default is zeros. Assumes nothing.
use Rattle.std.proofs.Common.{rules, arith, sym, ◌≡◌, ◌∙◌, replicate}
use Rattle.std.proofs.lemmas.List.{same_lists, get_or-replicate}
use Rattle.asc_lines.specs.Told.{no_frame}
use Rattle.asc_lines.proofs.told.Body.frame.Goals as goal

pub returns-in_default : goal.returns-in_default
unfolding no_frame
returns-in_default c =
    let z = c.default.ensures.1.1.1.1.1 in
    let b : c.default.result.bytes ≡ replicate 8 0 = same_lists _ (replicate 8 0) z.long (λ k d h. z.at k d (omega (arith, z.long)) ∙ sym (get_or-replicate 8 k 0 d (omega (arith, z.long)))) in
    search rules
