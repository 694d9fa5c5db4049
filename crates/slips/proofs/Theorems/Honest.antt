-- Any sharing-out of a log's objects among at most eight rising desks makes a bundle that is accepted. Assumes nothing.
use mathlib.Core.Path.{refl, ◌∙◌}
use mathlib.Core.List.{List, [], ◌∷◌, ◌++◌}
use mathlib.Core.Logic.{inl, inr}
use Prim.Native.Nat.{ℕ, ◌+◌, ◌≤◌}
use native.Mathlib.Omega.{arith}
use lib.ListN.{length}
use Rattle.fields.specs.Numbers.{Bytes}
use Rattle.fields.specs.Digits.{be}
use Rattle.objects.specs.Logs.{LogOf}
use Rattle.objects.specs.declared.Entry.{Entry}
use Rattle.objects.specs.Named.{In, entries_of}
use Rattle.objects.specs.Rising.{Rising}
use Rattle.objects.proofs.Naming.{entries_many, entries_rise, entries_fit, room}
use Rattle.slips.specs.Cut.{Slip}
use Rattle.slips.specs.Bundle.{entry_bytes, entries_bytes, slip_length, slip_bytes, bundle_bytes, Fits, AllFit, AllByRule}
use Rattle.slips.specs.Claims.{longest, Honest}
use Rattle.slips.specs.Share.{share, Sharing, Passes}
use Rattle.fields.proofs.BigEndian.{bytes_cons, bytes_append, bytes_be}
use Rattle.slips.proofs.Theorems.Verdicts.{check_exact}
use Rattle.slips.proofs.Theorems.Sharing.{desks_once, share_times, share_on, share_rule, share_length}

-- a bundle by the rule is bytes

bytes_entries : (es : List Entry) → Bytes (entries_bytes es)
bytes_entries [] = λ i. omega arith
bytes_entries (e ∷ es) =
    bytes_append (entry_bytes e) (entries_bytes es)
    (bytes_append (be 4 e.start ++ be 4 e.size) (be 4 e.kind) (bytes_append (be 4 e.start) (be 4 e.size) (bytes_be 4 _) (bytes_be 4 _)) (bytes_be 4 _))
    (bytes_entries es)

bytes_bundle : (least : ℕ) (ss : List Slip) → AllByRule least ss → Bytes (bundle_bytes ss)
bytes_bundle least [] w = λ i. omega arith
bytes_bundle least (s ∷ ss) w =
    bytes_append (slip_bytes s) (bundle_bytes ss)
    (bytes_append (be 4 (slip_length s)) (1 ∷ s.desk ∷ entries_bytes s.entries) (bytes_be 4 _)
    (bytes_cons (s.desk ∷ entries_bytes s.entries) (omega arith) (bytes_cons (entries_bytes s.entries) w.0.desk (bytes_entries s.entries))))
    (bytes_bundle (s.desk + 1) ss w.1)

-- the entries of a log

all_fit : (es : List Entry) → ((e : Entry) → In e es → Fits e) → AllFit es
all_fit [] f = tt
all_fit (e ∷ es) f = (f e (inl refl), all_fit es (λ x i. f x (inr i)))

pub honest_passes : (s : List ℕ) (is : List (List ℕ)) → Bytes s → length s ≤ longest → LogOf s is
    → (who : Entry → ℕ) (ds : List ℕ) → Sharing who ds (entries_of 0 is) → Passes s is (bundle_bytes (share who ds (entries_of 0 is)))
honest_passes s is bs short log who ds w =
    let os : List Entry = entries_of 0 is in
    let ss : List Slip = share who ds os in
    let up : Rising os = entries_rise log in
    let fit : AllFit os = all_fit os (λ e i. let f = entries_fit bs log short e i in record { start = f.0; size = f.1; kind = f.2 }) in
    let rule : AllByRule 0 ss = share_rule who os up fit (omega (arith, room log, entries_many 0 is)) 0 ds w.desks in
    let bytes : Bytes (bundle_bytes ss) = bytes_bundle 0 ss rule in
    let honest : Honest s (bundle_bytes ss) (length is) =
    record {
      formed =
          record { short = short; objects = is; log = log; slips = ss; bundle = record { bytes = refl; few = rw (share_length who os ds) w.few; rule = rule } };
      many = refl;
      right =
          record {
            named = λ e i. share_on who os e ds i;
            once = λ o i. share_times who os up o i ds ∙ desks_once (who o) 0 ds w.desks (w.all o i);
          };
    } in
    record { bytes = bytes; accepted = (check_exact s (bundle_bytes ss) bs bytes (length is)).1 honest }
