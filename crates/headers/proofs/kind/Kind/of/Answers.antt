-- `headers::Kind::of` meets its contract: a number that is no type's own has the foreign row. Assumes nothing.
use mathlib.Core.Path.{◌≡◌, sym, ap}
use mathlib.Core.Bool.{false}
use mathlib.Core.List.{[], ◌∷◌}
use Prim.Native.Nat.{ℕ}
use native.Mathlib.Omega.{arith}
use Rattle.headers.specs.Types.{type_list}
use Rattle.headers.specs.Rows.{row_in, row_of, listed}
use Rattle.headers.proofs.TypeSearch.{NoneOf, row_behind}
use Rattle.headers.proofs.kind.Kind.of.Goals as goal

foreign : (n : ℕ) → NoneOf (123 ∷ 122 ∷ 121 ∷ 120 ∷ 103 ∷ 100 ∷ 86 ∷ 62 ∷ 57 ∷ 50 ∷ 4 ∷ 3 ∷ 1 ∷ []) n → listed (row_of n) ≡ false
unfolding type_list row_in
foreign n h = sym (ap listed (row_behind type_list [] n h))

pub returns-then-number-row-10 : goal.returns-then-number-row-10
returns-then-number-row-10 c =
    foreign c.args.number (
      (
        (
          (
            (
              (
                (
                  (
                    (
                      (
                        (
                          (
                            (
                              tt,
                              λ e. omega (arith, e),
                            ),
                            λ e. omega (arith, e),
                          ),
                          λ e. omega (arith, e),
                        ),
                        λ e. omega (arith, e),
                      ),
                      λ e. omega (arith, e),
                    ),
                    λ e. omega (arith, e),
                  ),
                  λ e. omega (arith, e),
                ),
                λ e. omega (arith, e),
              ),
              λ e. omega (arith, e),
            ),
            λ e. omega (arith, e),
          ),
          λ e. omega (arith, e),
        ),
        λ e. omega (arith, e),
      ),
      λ e. omega (arith, e),
    )

pub returns : goal.returns
returns c =
    foreign c.args.number (
      (
        (
          (
            (
              (
                (
                  (
                    (
                      (
                        (
                          (
                            (
                              tt,
                              λ e. omega (arith, e),
                            ),
                            λ e. omega (arith, e),
                          ),
                          λ e. omega (arith, e),
                        ),
                        λ e. omega (arith, e),
                      ),
                      λ e. omega (arith, e),
                    ),
                    λ e. omega (arith, e),
                  ),
                  λ e. omega (arith, e),
                ),
                λ e. omega (arith, e),
              ),
              λ e. omega (arith, e),
            ),
            λ e. omega (arith, e),
          ),
          λ e. omega (arith, e),
        ),
        λ e. omega (arith, e),
      ),
      λ e. omega (arith, e),
    )
