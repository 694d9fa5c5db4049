-- What the listing loop knows: the lines so far stand at the buffer's start, and with those to come they are the
-- listing. Assumes nothing.
use mathlib.Core.Path.{◌≡◌, refl, sym, ap, ◌∙◌, subst}
use mathlib.Core.List.{List, [], ◌++◌, append_assoc}
use Prim.Native.Nat.{ℕ, suc, ◌+◌, ◌*◌, ◌-◌, ◌≤◌, ◌<◌}
use native.Mathlib.Nat.{zero-add}
use native.Mathlib.Omega.{arith}
use lib.ListN.{length, length-append}
use Rattle.fields.proofs.Writing.{wrote_length}
use Rattle.objects.specs.declared.Step.{Step}
use Rattle.std.specs.Prelude.{Err}
use Rattle.headers.specs.Refused as told
use Rattle.objects.specs.Answers.{Answer, Object, Done}
use Rattle.objects.specs.Next.{next_at}
use Rattle.objects.specs.Stepping.{Met, met_at}
use Rattle.objects.proofs.Steps.{is_at_end}
use Rattle.objects.proofs.Walks.{ahead, met_object, met_done, met_refused}
use Rattle.listing.specs.Text.{said, line_of, object_line, end_line, refused_line, Said}
use Rattle.listing.specs.Listing.{lines_of, final_line, listing_of}
use Rattle.listing.proofs.Decimals.{decimal_short}
use Rattle.listing.proofs.Texts.{on, counts}

-- the lines of what is met behind n objects
abbrev pub after : ℕ → Met → List ℕ
after n m = lines_of m.objects ++ final_line m.ended (n + length m.objects) m.at

pub record Listing (log x y : List ℕ) (at n used : ℕ) : Type 0 where
  pub within : at ≤ length log
  pub fewer : n ≤ at
  pub holds : 4 * length log + 64 ≤ length x
  pub long : length y ≡ length x
  pub low : used ≤ 4 * at
  pub text : List ℕ
  pub put : Said 0 text x y used
  pub same : text ++ after n (met_at log at) ≡ listing_of log

pub listing_none : (log x : List ℕ) → 4 * length log + 64 ≤ length x → Listing log x x 0 0 0
unfolding listing_of
listing_none log x h =
    record {
      within = omega arith;
      fewer = omega arith;
      holds = h;
      long = refl;
      low = omega arith;
      text = [];
      put = record { wrote = record { is = refl }; ends = refl; inside = counts 0 x (omega arith) };
      same = rw zero-add;
    }

object_short : (start size kind : ℕ) → length (object_line start size kind) ≤ 64
unfolding object_line line_of said
object_short start size kind =
    simp length-append (omega (arith, decimal_short start, decimal_short size, decimal_short kind))

module _ (log : List ℕ) (at n : ℕ) (x y : List ℕ) (used : ℕ) (w : Listing log x y at n used) where
  last_line : {z bs : List ℕ} {r : ℕ} → Said used bs y z r → after n (met_at log at) ≡ bs → Said 0 (listing_of log) x z r
  last_line {z} {bs} {r} s e = subst (λ (t : List ℕ). Said 0 t x z r) (ap (λ (t : List ℕ). w.text ++ t) (sym e) ∙ w.same) (on w.put s)

  pub listed_done : {z : List ℕ} {r : ℕ} → (next_at log at).answer ≡ Done → Said used (end_line (length log) n) y z r → Said 0 (listing_of log) x z r
  listed_done e s =
      let c : n + 0 ≡ n = omega arith in
      last_line s (rw (met_done log at e) (λ i. end_line (is_at_end log at e i) (c i)))

  pub listed_refused : {z : List ℕ} {r : ℕ} {f : told.Refused} → (next_at log at).answer ≡ Err f → Said used (refused_line f.number f.place) y z r → Said 0 (listing_of log) x z r
  listed_refused e s = last_line s (rw (met_refused log at e))

  pub listing_room : used + 64 ≤ length y
  listing_room = omega (arith, w.within, w.holds, w.long, w.low)

  module _ (start size kind : ℕ) (e : (next_at log at).answer ≡ Object start size kind) where
    pub listing_more : {z : List ℕ} {r : ℕ} → Said used (object_line start size kind) y z r → Listing log x z (next_at log at).next.at (n + 1) r
    listing_more s =
        let a = ahead log at start size kind e in
        let m = met_at log (next_at log at).next.at in
        let line = object_line start size kind in
        let c : (n + 1) + length m.objects ≡ n + suc (length m.objects) = omega arith in
        let l : line ++ after (n + 1) m ≡ (line ++ lines_of m.objects) ++ final_line m.ended (n + suc (length m.objects)) m.at =
        ap (λ (k : ℕ). line ++ (lines_of m.objects ++ final_line m.ended k m.at)) c ∙ sym (append_assoc line (lines_of m.objects) _) in
        let q = w.same in
        let t : w.text ++ (line ++ after (n + 1) m) ≡ listing_of log =
        ap (λ (k : List ℕ). w.text ++ k) l ∙ rw (met_object log at (record { start = start; size = size; kind = kind }) e) at q in
        record {
          within = omega (arith, a.within, a.next);
          fewer = omega (arith, w.fewer, a.long, a.next);
          holds = w.holds;
          long = wrote_length s.wrote ∙ w.long;
          low = omega (arith, s.ends, object_short start size kind, w.low, a.long, a.next);
          text = w.text ++ object_line start size kind;
          put = on w.put s;
          same = append_assoc w.text line (after (n + 1) m) ∙ t;
        }

    -- each turn leaves less of the log
    pub listing_less : length log - (next_at log at).next.at < length log - at
    listing_less = let a = ahead log at start size kind e in omega (arith, a.within, a.next, a.long)

-- what a step answers, from the step that the code took
pub answers : (s : List ℕ) (at : ℕ) {a : Answer} (t : Step) → t ≡ next_at s at → t.answer ≡ a → (next_at s at).answer ≡ a
answers s at t e q = ap (λ (x : Step). x.answer) (sym e) ∙ q
