-- Where what is left of slips stands: not behind its end, and that in a bundle of so many bytes.
use Rattle.std.specs.Prelude.{ℕ, ◌≤◌, List}
use Rattle.std.specs.List.{All}
use Rattle.slips.specs.declared.bundle.Place.{Place}

abbrev pub Inside : ℕ → Place → Type 0
Inside n p = (p.at ≤ p.end) × (p.end ≤ n)

abbrev pub AllInside : ℕ → List Place → Type 0
AllInside n ps = All (Inside n) ps
