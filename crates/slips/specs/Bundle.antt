-- 01, "Slips": "A bundle is zero to eight slips end to end, big-endian. A slip: u32 length of what follows that field,
-- version byte 1, desk byte, then entries of three u32: object start, object size without padding, type. Entries rise
-- strictly by start; desk bytes rise strictly along the bundle." `bundle_exact` of proofs/Format/Cuts says that these
-- are the slips that Cut finds.
use Rattle.std.specs.Prelude.{ℕ, ◌+◌, ◌*◌, ◌<◌, ◌≤◌, ◌≡◌, List, [], ◌∷◌, ◌++◌, length}
use Rattle.fields.specs.Digits.{be}
use Rattle.objects.specs.declared.Entry.{Entry}
use Rattle.objects.specs.Rising.{Rising}
use Rattle.slips.specs.Cut.{Slip, slip_limit}

-- as bytes

abbrev pub entry_bytes : Entry → List ℕ
entry_bytes e = be 4 e.start ++ be 4 e.size ++ be 4 e.kind

abbrev pub entries_bytes : List Entry → List ℕ
entries_bytes [] = []
entries_bytes (e ∷ es) = entry_bytes e ++ entries_bytes es

-- what follows the length: version and desk, and twelve bytes an entry
abbrev pub slip_length : Slip → ℕ
slip_length s = 2 + 12 * length s.entries

abbrev pub slip_bytes : Slip → List ℕ
slip_bytes s = be 4 (slip_length s) ++ (1 ∷ s.desk ∷ entries_bytes s.entries)

abbrev pub bundle_bytes : List Slip → List ℕ
bundle_bytes [] = []
bundle_bytes (s ∷ ss) = slip_bytes s ++ bundle_bytes ss

-- by the rule

-- three u32
pub record Fits (e : Entry) : Type 0 where
  pub start : e.start < 4294967296
  pub size : e.size < 4294967296
  pub kind : e.kind < 4294967296

abbrev pub AllFit : List Entry → Type 0
AllFit [] = Unit
AllFit (e ∷ es) = Fits e × AllFit es

-- a slip whose desk is at least `least`
pub record ByRule (least : ℕ) (s : Slip) : Type 0 where
  pub above : least ≤ s.desk
  pub desk : s.desk < 256
  pub short : slip_length s < 4294967296
  pub fit : AllFit s.entries
  pub rise : Rising s.entries

-- each desk is above the one before
abbrev pub AllByRule : ℕ → List Slip → Type 0
AllByRule least [] = Unit
AllByRule least (s ∷ ss) = ByRule least s × AllByRule (s.desk + 1) ss

-- b is the bundle of these slips
pub record BundleOf (b : List ℕ) (ss : List Slip) : Type 0 where
  pub bytes : b ≡ bundle_bytes ss
  pub few : length ss ≤ slip_limit
  pub rule : AllByRule 0 ss
