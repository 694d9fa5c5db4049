-- 01, "Slips": 24 and 20 to 23, slip by slip, in the order of the table; the place is the slip's start in the bundle.
-- t is what is left of the bundle, and its offsets count from there.
use Rattle.std.specs.Prelude.{ℕ, zero, suc, ◌+◌, ◌-◌, ◌/◌, ◌%◌, Bool, true, cond, ◌&&◌, List, [], ◌∷◌, length, drop, get_or, eqb, leb}
use Rattle.fields.specs.Numbers.{big}
use Rattle.headers.specs.HeadTests.{first}
use Rattle.objects.specs.declared.Entry.{Entry}

pub record Slip : Type 0 where
  pub desk : ℕ
  pub entries : List Entry

abbrev pub slip_limit : ℕ
slip_limit = 8

-- what t begins with

abbrev pub entry_in : List ℕ → Entry
entry_in t = record { start = big 4 t 0; size = big 4 t 4; kind = big 4 t 8 }

abbrev pub entries_in : ℕ → List ℕ → List Entry
entries_in zero t = []
entries_in (suc n) t = entry_in t ∷ entries_in n (drop 12 t)

abbrev pub length_in : List ℕ → ℕ
length_in t = big 4 t 0

abbrev pub desk_in : List ℕ → ℕ
desk_in t = get_or t 5 0

abbrev pub slip_in : List ℕ → Slip
slip_in t = record { desk = desk_in t; entries = entries_in ((length_in t - 2) / 12) (drop 6 t) }

-- 20: fewer than 4 bytes remain for the length, it is below 2, 2 less is no multiple of 12, or the slip passes the
-- bundle's end
unfoldable pub shape_ok : List ℕ → Bool
shape_ok t =
    leb 4 (length t)
    && leb 2 (length_in t)
    && eqb ((length_in t - 2) % 12) 0
    && leb (4 + length_in t) (length t)

-- 23: starts rise strictly, the first is at least `least`
abbrev pub rises_from : ℕ → List Entry → Bool
rises_from least [] = true
rises_from least (e ∷ es) = leb least e.start && rises_from (e.start + 1) es

-- 0 for no fault; the desk must be at least `least`
unfoldable pub fault_of : List ℕ → ℕ → ℕ
fault_of t least =
    first 20 (shape_ok t)
    (first 21 (eqb (get_or t 4 0) 1)
    (first 22 (leb least (desk_in t))
    (first 23 (rises_from 0 (slip_in t).entries) 0)))

-- the slips of a bundle, or its first refusal: number and place
pub data Cut : Type 0 where
  Slips : List Slip → Cut
  Fault : ℕ → ℕ → Cut

abbrev pub onto : Slip → Cut → Cut
onto s (Slips ss) = Slips (s ∷ ss)
onto s (Fault k p) = Fault k p

-- the refusal of the slip at a place, or, where it has no fault, what comes of it
abbrev pub or_fault : ℕ → ℕ → Cut → Cut
or_fault zero at c = c
or_fault (suc k) at c = Fault (suc k) at

-- at most k more slips, from a place on, whose desks rise from `least`; 24 where a slip too many would begin
abbrev pub cut_from : ℕ → List ℕ → ℕ → ℕ → Cut
cut_from zero t at least = cond (eqb (length t) 0) (Slips []) (Fault 24 at)
cut_from (suc k) t at least =
    cond (eqb (length t) 0) (Slips [])
    (or_fault (fault_of t least) at
    (onto (slip_in t) (cut_from k (drop (4 + length_in t) t) (at + (4 + length_in t)) (desk_in t + 1))))

unfoldable pub cut_of : List ℕ → Cut
cut_of b = cut_from slip_limit b 0 0
