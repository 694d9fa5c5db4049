-- Answers that are equal tell the same. Assumes nothing.
use mathlib.Core.Path.{◌≡◌, ap}
use Prim.Native.Nat.{ℕ}
use Rattle.std.specs.Prelude.{Some, Result, Ok, Err}
use Rattle.headers.specs.Refused as told
use Rattle.objects.specs.Answers.{Answer, Object, Done, Refused}

start_of : Answer → ℕ
start_of (Ok (Some o)) = o.start
start_of Done = 0
start_of (Err r) = 0

size_of : Answer → ℕ
size_of (Ok (Some o)) = o.size
size_of Done = 0
size_of (Err r) = 0

kind_of : Answer → ℕ
kind_of (Ok (Some o)) = o.kind
kind_of Done = 0
kind_of (Err r) = 0

pub same_object : {a b m n j k : ℕ} → Object a m j ≡ Object b n k → (a ≡ b) × (m ≡ n) × (j ≡ k)
unfolding start_of size_of kind_of
same_object e = (ap start_of e, ap size_of e, ap kind_of e)

number_of : {A : Type 0} → Result A told.Refused → ℕ
number_of (Ok a) = 0
number_of (Err r) = r.number

place_of : {A : Type 0} → Result A told.Refused → ℕ
place_of (Ok a) = 0
place_of (Err r) = r.place

pub same_refusal : {A : Type 0} {m n p q : ℕ} → ◌≡◌ {A = Result A told.Refused} (Refused m p) (Refused n q) → (m ≡ n) × (p ≡ q)
unfolding number_of place_of
same_refusal e = (ap number_of e, ap place_of e)
