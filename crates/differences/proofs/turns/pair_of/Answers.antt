-- `differences::turns::pair_of` meets its contract: an object lies in its log, and has a header. Assumes nothing.
use mathlib.Core.Path.{◌≡◌, ◌∙◌}
use Prim.Native.Nat.{◌+◌, ◌-◌}
use native.Mathlib.Omega.{arith}
use borrow.Author.Rules.{rules}
use lib.ListN.{drop, length-drop}
use lib.Seq.{length-take-le}
use Rattle.std.specs.Prelude.{Some, Ok}
use Rattle.objects.proofs.Walks.{ahead, object_within}
use Rattle.differences.proofs.turns.pair_of.Goals as goal

pub overflow_add-o : goal.overflow_add-o
overflow_add-o c =
    let e : c.args.one ≡ Ok (Some c.in-Ok-Some-Ok-Some.o) = search rules in
    omega (arith, object_within _ _ _ _ _ (c.requires.0.1 ∙ e))

pub slice_bounds-same-end : goal.slice_bounds-same-end
slice_bounds-same-end c =
    let e : c.args.one ≡ Ok (Some c.in-Ok-Some-Ok-Some.o) = search rules in
    omega (arith, object_within _ _ _ _ _ (c.requires.0.1 ∙ e))

pub overflow_add-p : goal.overflow_add-p
overflow_add-p c =
    let e : c.args.other ≡ Ok (Some c.in-Ok-Some-Ok-Some.p) = search rules in
    omega (arith, object_within _ _ _ _ _ (c.requires.1.1 ∙ e))

pub slice_bounds-same-end-in-Ok-Some-Ok-Some : goal.slice_bounds-same-end-in-Ok-Some-Ok-Some
slice_bounds-same-end-in-Ok-Some-Ok-Some c =
    let e : c.args.other ≡ Ok (Some c.in-Ok-Some-Ok-Some.p) = search rules in
    omega (arith, object_within _ _ _ _ _ (c.requires.1.1 ∙ e))

pub same-requires : goal.same-requires
same-requires c =
    let o = c.in-Ok-Some-Ok-Some.o in
    let e : c.args.one ≡ Ok (Some o) = search rules in
    let a = ahead _ _ _ _ _ (c.requires.0.1 ∙ e) in
    let w = object_within _ _ _ _ _ (c.requires.0.1 ∙ e) in
    let t = length-take-le (o.start + o.size - o.start) (drop o.start c.args.first.now) (omega (arith, w, length-drop o.start c.args.first.now)) in
    omega (arith, a.long, a.sized, t)
