-- A tray of CAN messages: what a C caller gets.
use Rattle.std.specs.Prelude.{ℕ, List, [], ◌∷◌}
use Rattle.headers.specs.declared.header.Origin.{Origin}
use Rattle.headers.specs.declared.header.Origin.TheVariants.{First, Second}
use Rattle.tray.specs.declared.Common.{Common}
use Rattle.tray.specs.declared.Trayed.{Trayed}
use Rattle.tray.specs.Tray.{Tray}
use Rattle.tray.specs.Replies.{tray_reply}
use Rattle.exported.specs.Replies.{Reply, reply, Filled, code_of}

-- what is common, as the numbers of a call
abbrev pub under : Origin → ℕ → ℕ → ℕ → ℕ → ℕ → Common
under origin unit version channel flags dlc =
    record { unit = unit; origin = origin; version = version; channel = channel; flags = flags; dlc = dlc }

abbrev pub under_first : ℕ → ℕ → ℕ → ℕ → ℕ → ℕ → Common
under_first unit client version channel flags dlc = under (First client) unit version channel flags dlc

abbrev pub under_second : ℕ → ℕ → ℕ → ℕ → ℕ → ℕ → ℕ → Common
under_second unit status version original channel flags dlc = under (Second status original) unit version channel flags dlc

-- the refusal's number, or 0, and how many were written
abbrev pub filled_reply : Trayed → Reply
filled_reply t = reply (code_of (tray_reply t.answer)) (t.written ∷ [])

-- what is told of a tray, and its bytes
abbrev pub TrayFilled : Tray → ℕ → List ℕ → List ℕ → List ℕ → List ℕ → Type 0
TrayFilled t r x y us vs = Filled (filled_reply t.told) t.buffer r x y us vs
