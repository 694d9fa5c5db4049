-- What is taken out of a text, as the code takes it, and the ways in which it is answered. Assumes nothing.
use mathlib.Core.Path.{◌≡◌, refl, sym, ap, ap₂, ◌∙◌, subst}
use mathlib.Core.Bool.{Bool, true, false, cond}
use mathlib.Core.List.{List}
use Prim.Native.Nat.{ℕ, ◌+◌, ◌*◌, ◌%◌, ◌^◌, ◌<◌}
use Rattle.std.specs.Prelude.{Some, None}
use Rattle.std.specs.Bool.{then_some}
use lib.ListN.{get_or}
use lib.Dec.{eqb}
use Rattle.digits.specs.Reading.{number}
use Rattle.digits.specs.Pairs.{filled}
use Rattle.digits.specs.declared.reading.Number.{Number}
use Rattle.digits.proofs.Digits.{number_low}
use Rattle.asc_lines.specs.declared.told.Told.{Told}
use Rattle.asc_lines.specs.Told.{shown}
use Rattle.asc_lines.specs.Lines.{line_of}
use Rattle.asc_lines.specs.Reading.{stands, seconds_in, nanos_in, channel_in, head_in, head_end, id_in, mid_in, dlc_in, frame_in, count_in, d_in, r_in, xd_in, xr_in, e_in, o_in, whole_in, load_in, counts_in, candidate, possible_time, same, line_in}

-- a number of at most k digits is below b ^ k
pub low : (b k : ℕ) (s : List ℕ) (at : ℕ) {n : Number} → 1 < b → n ≡ number b k s at → n.value < b ^ k
low b k s at two e = subst (λ (x : Number). x.value < b ^ k) (sym e) (number_low b k s at two)

-- the head, from its three numbers
module _ (s : List ℕ) (a b c : Number) (ea : a ≡ number 10 15 s 0) (eb : b ≡ number 10 9 s (a.end + 1)) (ec : c ≡ number 10 5 s (b.end + 1)) where
  the_seconds : a ≡ seconds_in s
  unfolding seconds_in
  the_seconds = ea

  the_nanos : b ≡ nanos_in s
  unfolding nanos_in
  the_nanos = eb ∙ ap (λ (x : Number). number 10 9 s (x.end + 1)) the_seconds

  the_channel : c ≡ channel_in s
  unfolding channel_in
  the_channel = ec ∙ ap (λ (x : Number). number 10 5 s (x.end + 1)) the_nanos

  pub head_is : record { seconds = a.value; nanos = b.value; channel = c.value % 65536 } ≡ head_in s
  unfolding head_in
  head_is = λ i. record { seconds = (the_seconds i).value; nanos = (the_nanos i).value; channel = (the_channel i).value % 65536 }

  pub head_end_is : c.end ≡ head_end s
  head_end_is = ap (λ (x : Number). x.end) the_channel

-- the frame, from its numbers and marks
module _ (s : List ℕ) (at : ℕ) (id : Number) (x mid w k : ℕ) (dlc : Number) (n : ℕ) (bs : List ℕ)
    (ei : id ≡ number 16 8 s (at + 1)) (ex : x ≡ get_or s id.end 0) (em : mid ≡ id.end + cond (eqb x 120) 1 0)
    (ew : w ≡ get_or s (mid + 1) 0) (ek : k ≡ get_or s (mid + 4) 0) (ed : dlc ≡ number 10 3 s (mid + 6))
    (en : n ≡ shown (eqb k 114) (dlc.value % 256)) (eb : bs ≡ filled n s dlc.end) where
  the_id : id ≡ id_in s at
  unfolding id_in
  the_id = ei

  the_mark : eqb x 120 ≡ stands 120 s (id_in s at).end
  the_mark = ap (λ (v : ℕ). eqb v 120) ex ∙ ap (λ (v : Number). stands 120 s v.end) the_id

  the_mid : mid ≡ mid_in s at
  unfolding mid_in
  the_mid = em ∙ ap₂ (λ (v : Number) (b : Bool). v.end + cond b 1 0) the_id the_mark

  the_way : eqb w 84 ≡ stands 84 s (mid_in s at + 1)
  the_way = ap (λ (v : ℕ). eqb v 84) ew ∙ ap (λ (m : ℕ). stands 84 s (m + 1)) the_mid

  the_sort : eqb k 114 ≡ stands 114 s (mid_in s at + 4)
  the_sort = ap (λ (v : ℕ). eqb v 114) ek ∙ ap (λ (m : ℕ). stands 114 s (m + 4)) the_mid

  the_dlc : dlc ≡ dlc_in s at
  unfolding dlc_in
  the_dlc = ed ∙ ap (λ (m : ℕ). number 10 3 s (m + 6)) the_mid

  the_bytes : bs ≡ filled (shown (stands 114 s (mid_in s at + 4)) ((dlc_in s at).value % 256)) s (dlc_in s at).end
  the_bytes =
      let q : n ≡ shown (stands 114 s (mid_in s at + 4)) ((dlc_in s at).value % 256) = en ∙ ap₂ (λ (r : Bool) (v : Number). shown r (v.value % 256)) the_sort the_dlc in
      eb ∙ ap₂ (λ (m : ℕ) (v : Number). filled m s v.end) q the_dlc

  pub frame_is : record { id = id.value % 2147483648; extended = eqb x 120; sent = eqb w 84; remote = eqb k 114; dlc = dlc.value % 256; bytes = bs } ≡ frame_in s at
  unfolding frame_in
  frame_is = λ i. record {
    id = (the_id i).value % 2147483648;
    extended = the_mark i;
    sent = the_way i;
    remote = the_sort i;
    dlc = (the_dlc i).value % 256;
    bytes = the_bytes i;
  }

-- the load, from its two numbers
pub load_is : (s : List ℕ) (at : ℕ) (a b : Number) → a ≡ number 10 3 s (at + 3) → b ≡ number 10 2 s (a.end + 1) → (100 * a.value + b.value) % 65536 ≡ load_in s at
unfolding load_in whole_in
load_is s at a b ea eb = ap₂ (λ (x y : Number). (100 * x.value + y.value) % 65536) ea (eb ∙ ap (λ (x : Number). number 10 2 s (x.end + 1)) ea)

-- the counts, from their numbers
module _ (s : List ℕ) (at : ℕ) (d r xd xr e o : Number) (load : ℕ) (ed : d ≡ number 10 10 s (at + 14)) (er : r ≡ number 10 10 s (d.end + 3))
    (exd : xd ≡ number 10 10 s (r.end + 4)) (exr : xr ≡ number 10 10 s (xd.end + 4)) (ee : e ≡ number 10 10 s (xr.end + 3)) (eo : o ≡ number 10 10 s (e.end + 3))
    (el : load ≡ load_in s o.end) where
  the_d : d ≡ d_in s at
  unfolding count_in
  the_d = ed

  the_r : r ≡ r_in s at
  unfolding count_in
  the_r = er ∙ ap (λ (n : Number). number 10 10 s (n.end + 3)) the_d

  the_xd : xd ≡ xd_in s at
  unfolding count_in
  the_xd = exd ∙ ap (λ (n : Number). number 10 10 s (n.end + 4)) the_r

  the_xr : xr ≡ xr_in s at
  unfolding count_in
  the_xr = exr ∙ ap (λ (n : Number). number 10 10 s (n.end + 4)) the_xd

  the_e : e ≡ e_in s at
  unfolding count_in
  the_e = ee ∙ ap (λ (n : Number). number 10 10 s (n.end + 3)) the_xr

  the_o : o ≡ o_in s at
  unfolding count_in
  the_o = eo ∙ ap (λ (n : Number). number 10 10 s (n.end + 3)) the_e

  the_load : load ≡ load_in s (o_in s at).end
  the_load = el ∙ ap (λ (n : Number). load_in s n.end) the_o

  pub counts_are :
      record {
        load = load;
        standard_data = d.value % 4294967296;
        extended_data = xd.value % 4294967296;
        standard_remote = r.value % 4294967296;
        extended_remote = xr.value % 4294967296;
        errors = e.value % 4294967296;
        overloads = o.value % 4294967296;
      } ≡ counts_in s at
  unfolding counts_in
  counts_are = λ i. record {
    load = the_load i;
    standard_data = (the_d i).value % 4294967296;
    extended_data = (the_xd i).value % 4294967296;
    standard_remote = (the_r i).value % 4294967296;
    extended_remote = (the_xr i).value % 4294967296;
    errors = (the_e i).value % 4294967296;
    overloads = (the_o i).value % 4294967296;
  }

-- what a text tells, by the time of its candidate and by whether the line is the text
module _ (s : List ℕ) (t : Told) (e : t ≡ candidate s) where
  pub no_time : possible_time t.head.seconds t.head.nanos ≡ false → None ≡ line_in s
  unfolding line_in
  no_time p = rw (← e, p)

  pub by_line : possible_time t.head.seconds t.head.nanos ≡ true → {b : Bool} → b ≡ same (line_of t) s → then_some b t ≡ line_in s
  unfolding line_in
  by_line p {b} q = rw (← e, p, ← q) (some b)
    where
      some : (b : Bool) → then_some b t ≡ cond b (Some t) None
      some true = refl
      some false = refl
