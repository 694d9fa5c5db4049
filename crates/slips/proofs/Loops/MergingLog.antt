-- The one pass over the log: what `merge_log` knows before each turn, and what each way out answers. Assumes nothing.
use mathlib.Core.Path.{◌≡◌, refl, sym, ap, ◌∙◌}
use mathlib.Core.List.{List}
use Prim.Native.Nat.{ℕ, ◌+◌, ◌-◌, ◌<◌}
use lib.ListN.{length}
use Rattle.std.specs.Prelude.{Some, Ok, Err}
use Rattle.std.specs.Prelude as opt
use Rattle.headers.specs.Refused.{Refused, refusal}
use Rattle.objects.specs.Answers.{Answer, Done, Walked}
use Rattle.objects.specs.declared.Step.{Step}
use Rattle.objects.specs.Next.{next_at}
use Rattle.objects.specs.declared.Entry.{Entry}
use Rattle.objects.specs.Stepping.{Ended, at_end, refused, no_step_left, met_at, objects_of}
use Rattle.objects.specs.Walk.{walked_by, walk_from, walk_of}
use Rattle.objects.proofs.Naming.{walking_less, met_object, met_done, Walking, walking_none, walking_more, walk_done, walk_refused}
use Rattle.slips.specs.Trouble.{Trouble, None, Found}
use Rattle.slips.specs.Check.{answer_of}
use Rattle.slips.specs.Inner.Merge.{moved_of, hits_of, low_of, trouble_at, refused_by, or_later, merge_of}
use Rattle.slips.specs.Inner.Pass.{at_end_of, merge_log_of}

-- with trouble in hand, what a walk tells does not hang on how many objects it has met
any : (e : Ended) (n m k x : ℕ) → answer_of (walked_by e n) (Found k x) ≡ answer_of (walked_by e m) (Found k x)
any at_end n m k x = refl
any (refused j p) n m k x = refl
any no_step_left n m k x = refl

-- equal steps answer the same
pub stepped : {x y : Step} → x ≡ y → {a : Answer} → x.answer ≡ a → y.answer ≡ a
stepped q e = ap (λ (y : Step). y.answer) (sym q) ∙ e

-- the walk and the merge: what is left of both gives what the whole gives
pub record MergingLog (s : List ℕ) (ss₀ : List (List Entry)) (at n : ℕ) (ss : List (List Entry)) : Type 0 where
  pub walk : Walking s at n
  pub same : merge_of (met_at s at).objects ss ≡ merge_of (objects_of s) ss₀

pub merging_none : (s : List ℕ) (ss : List (List Entry)) → MergingLog s ss 0 0 ss
merging_none s ss = record { walk = walking_none s; same = refl }

module _ (s : List ℕ) (ss₀ : List (List Entry)) (at n : ℕ) (ss : List (List Entry)) (w : MergingLog s ss₀ at n ss) where
  pub merge_refused : {r : Refused} → (next_at s at).answer ≡ Err r → Err r ≡ merge_log_of s ss₀
  unfolding merge_log_of
  merge_refused e = rw (← walk_refused w.walk e)

  -- at the end
  pub merge_end : (next_at s at).answer ≡ Done → at_end_of ss n ≡ merge_log_of s ss₀
  unfolding merge_log_of at_end_of
  merge_end e = rw (← w.same, met_done s at e, ← walk_done w.walk e)

  -- at an object
  module _ (o : Entry) (e : (next_at s at).answer ≡ Ok (Some o)) where
    abbrev trouble : Trouble
    trouble = trouble_at o.start (low_of o ss) (hits_of o ss)

    walk_next : Walking s (next_at s at).next.at (n + 1)
    walk_next = walking_more s at n o.start o.size o.kind e w.walk

    here : merge_of (objects_of s) ss₀ ≡ or_later trouble (merge_of (met_at s (next_at s at).next.at).objects (moved_of o ss))
    here = sym w.same ∙ rw (met_object s at o e)

    found : (u : Trouble) (r : Refused) → Some r ≡ refused_by u → u ≡ Found r.number r.place
    found None r q = absurd cc
    found (Found k x) r q = let i : r ≡ refusal k x = cc in rw i

    -- trouble here: what is told is what the rest of the walk lets through
    pub merge_trouble : (r : Refused) → Some r ≡ refused_by trouble → (v : Walked) → v ≡ walk_from s (next_at s at).next.at → answer_of v (Found r.number r.place) ≡ merge_log_of s ss₀
    unfolding merge_log_of walk_of
    merge_trouble r z v q =
        let f : merge_of (objects_of s) ss₀ ≡ Found r.number r.place = here ∙ rw (found trouble r z) in
        rw (f, q) (any (met_at s (next_at s at).next.at).ended _ _ _ _ ∙ ap (λ (w : Walked). answer_of w (Found r.number r.place)) walk_next.walk.same)

    -- no trouble
    clear : (u : Trouble) → opt.None ≡ refused_by u → u ≡ None
    clear None q = refl
    clear (Found k x) q = absurd cc

    pub merging_more : opt.None ≡ refused_by trouble → MergingLog s ss₀ (next_at s at).next.at (n + 1) (moved_of o ss)
    merging_more z = record { walk = walk_next; same = sym (here ∙ rw (clear trouble z)) }

    pub merging_less : length s - (next_at s at).next.at < length s - at
    merging_less = walking_less s at n o.start o.size o.kind e
