-- The trouble of specs/Trouble as a function; `trouble_is_first` of proofs/Trouble/Troubles says that it is the one
-- claimed there.
use Rattle.std.specs.Prelude.{cond, ◌&&◌, ◌||◌, List, [], ◌∷◌, eqb, leb, ltb}
use Rattle.objects.specs.declared.Entry.{Entry}
use Rattle.slips.specs.Right.{times, times_all}
use Rattle.slips.specs.Trouble.{Trouble, None, Found}

-- the smaller start first, and at one start the smaller number
abbrev pub sooner : Trouble → Trouble → Trouble
sooner None u = u
sooner (Found k x) None = Found k x
sooner (Found k x) (Found j y) = cond (ltb x y || (eqb x y && leb k j)) (Found k x) (Found j y)

-- the soonest of the troubles that entries give, on a slip and on all slips
abbrev pub soonest : (Entry → Trouble) → List Entry → Trouble
soonest f [] = None
soonest f (e ∷ es) = sooner (f e) (soonest f es)

abbrev pub soonest_on : (Entry → Trouble) → List (List Entry) → Trouble
soonest_on f [] = None
soonest_on f (s ∷ ss) = sooner (soonest f s) (soonest_on f ss)

-- 25, of an entry
abbrev pub stray : List Entry → Entry → Trouble
stray os e = cond (eqb (times e os) 0) (Found 25 e.start) None

-- 27 and 26, of an object
abbrev pub miscount : List (List Entry) → Entry → Trouble
miscount ss o =
    cond (eqb (times_all o ss) 0) (Found 27 o.start)
    (cond (eqb (times_all o ss) 1) None (Found 26 o.start))

unfoldable pub trouble_of : List Entry → List (List Entry) → Trouble
trouble_of os ss = sooner (soonest_on (stray os) ss) (soonest (miscount ss) os)
