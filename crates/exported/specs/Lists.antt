-- The objects of a log from a place on, listed in a slice of numbers: three for each object, its start, size and type.
use Rattle.std.specs.Prelude.{ℕ, ◌/◌, List, [], ◌∷◌, length}
use Rattle.std.proofs.lemmas.List.Edits.{sets}
use Rattle.objects.specs.declared.Entry.{Entry}
use Rattle.objects.specs.Stepping.{Ended, at_end, refused, no_step_left, met_from}
use Rattle.exported.specs.Replies.{Reply, reply}

-- the number that is told, how many objects were listed, the position where the next call goes on, the place of a
-- refusal, and the slice
pub record Listing : Type 0 where
  pub number : ℕ
  pub count : ℕ
  pub at : ℕ
  pub place : ℕ
  pub entries : List ℕ

abbrev pub listed : ℕ → ℕ → ℕ → ℕ → List ℕ → Listing
listed number count at place xs = record { number = number; count = count; at = at; place = place; entries = xs }

-- 100 is done, and 0 that there is no room for another object
abbrev pub number_for : Ended → ℕ
number_for at_end = 100
number_for (refused number place) = number
number_for no_step_left = 0

-- 0 where nothing is refused
abbrev pub place_for : Ended → ℕ
place_for at_end = 0
place_for (refused number place) = place
place_for no_step_left = 0

-- objects as the numbers of a list
abbrev pub numbers : List Entry → List ℕ
numbers [] = []
numbers (e ∷ es) = e.start ∷ e.size ∷ e.kind ∷ numbers es

-- the objects from a place on, as many as there is room for
unfoldable pub list_of : List ℕ → ℕ → List ℕ → Listing
list_of s at xs =
    let m = met_from (length xs / 3) s at in
    listed (number_for m.ended) (length m.objects) m.at (place_for m.ended) (sets xs 0 (numbers m.objects))

abbrev pub list_reply : Listing → Reply
list_reply l = reply l.number (l.count ∷ l.at ∷ l.place ∷ [])
