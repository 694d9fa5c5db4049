-- 01: "The check keeps one reading place for each of the eight slips." What is left of the slips of a bundle: as code
-- has it, places, and as the entries that stand there.
use Rattle.std.specs.Prelude.{ℕ, ◌-◌, ◌/◌, cond, ◌&&◌, List, [], ◌++◌, length, take, drop, map, replicate, leb, Result, Ok, Err}
use Rattle.headers.specs.Refused.{Refused, refusal}
use Rattle.objects.specs.declared.Entry.{Entry}
use Rattle.slips.specs.declared.bundle.Place.{Place}
use Rattle.slips.specs.declared.left.Slips as left
use Rattle.slips.specs.Cut.{slip_limit, entries_in, Cut, Slips, Fault}
use Rattle.slips.specs.Right.{entries_on}

-- what is left at a place; nothing where it is not in the bundle
unfoldable pub rest_at : List ℕ → Place → List ℕ
rest_at b p = cond (leb p.at p.end && leb p.end (length b)) (take (p.end - p.at) (drop p.at b)) []

-- the entries there, and at each of some places
abbrev pub slip_at : List ℕ → Place → List Entry
slip_at b p = entries_in (length (rest_at b p) / 12) (rest_at b p)

abbrev pub slips_in : List ℕ → List Place → List (List Entry)
slips_in b ps = map (slip_at b) ps

abbrev pub slips_at : left.Slips → List (List Entry)
slips_at s = slips_in s.bundle.now s.places

-- in what was read, or what refuses
abbrev pub read_at : Result left.Slips Refused → Result (List (List Entry)) Refused
read_at (Ok s) = Ok (slips_at s)
read_at (Err r) = Err r

-- as many slips as there may be, the last of them empty, or what refuses
abbrev pub filled : Cut → Result (List (List Entry)) Refused
filled (Slips ss) = Ok (entries_on ss ++ replicate (slip_limit - length ss) [])
filled (Fault k p) = Err (refusal k p)
