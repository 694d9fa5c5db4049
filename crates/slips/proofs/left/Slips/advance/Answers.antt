-- `slips::Slips::advance` meets its contract: before each turn the first slips are moved and the others stand where they
-- stood (`Turning`), all stand in the bundle, and each turn moves one more. Assumes nothing.
use mathlib.Core.Path.{◌≡◌, refl, sym, ◌∙◌}
use Prim.Native.Nat.{◌<◌}
use native.Mathlib.Omega.{arith}
use borrow.Author.Rules.{rules}
use lib.ListN.{length}
use Rattle.slips.specs.Cut.{slip_limit}
use Rattle.slips.specs.declared.merge.Compared.TheVariants.{Miss, Hit, Stray}
use Rattle.slips.specs.Inner.Rests.{slip_at}
use Rattle.slips.proofs.Loops.Places.{slip_behind, hit_inside, slip_nowhere, kept_inside, moved_inside}
use Rattle.slips.proofs.Loops.Turns.{lowest_stray, turn_at}
use Rattle.slips.proofs.left.Slips.advance.Goals as goal
use Rattle.slips.proofs.left.Slips.advance.Goals.{in-Miss, in-Hit, in-Stray}

pub overflow_add-place : goal.overflow_add-place
overflow_add-place c =
    let e = sym (rw c.rest.ensures at c.compare.ensures) in
    let l = hit_inside c.args.self.bundle.now c.args.object _ (e ∙ c.in-Hit.is) in
    search rules

pub loop-place-preserved : goal.loop-place-preserved
loop-place-preserved c =
    let b = c.args.self.bundle.now in
    let none = slip_nowhere b in
    let below : c.loop-place.place-index < slip_limit = omega arith in
    let eight : length c.args.self.places ≡ slip_limit = search rules in
    let e = sym (rw c.rest.ensures at c.compare.ensures) in
    let m = c.loop-place.invariant.turning in
    let inside = c.loop-place.invariant.inside in
    elim c.match-compare.branch [
      | in-Miss w ↦ rw (w.place-items-is, w.hits-is, w.low-is) (record {
        turning = turn_at _ (slip_at b) _ _ below eight m _ none Miss (e ∙ w.in-Miss.is) _ refl (omega arith) refl;
        inside = kept_inside _ _ _ inside;
      })
      | in-Hit w ↦ rw (w.place-items-is, w.hits-is, w.low-is) (record {
        turning = turn_at _ (slip_at b) _ _ below eight m _ none Hit (e ∙ w.in-Hit.is) _ (slip_behind b _) refl refl;
        inside = moved_inside b _ _ _ inside (e ∙ w.in-Hit.is);
      })
      | in-Stray w ↦ rw (w.place-items-is, w.hits-is, w.low-is) (record {
        turning = turn_at _ (slip_at b) _ _ below eight m _ none (Stray w.in-Stray.start) (e ∙ w.in-Stray.is) _ refl (omega arith) (search (rules, lowest_stray));
        inside = kept_inside _ _ _ inside;
      })
    ]
