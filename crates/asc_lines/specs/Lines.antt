-- W-201: the line of what is told. One space between items; CR LF at the end.
use Rattle.std.specs.Prelude.{ℕ, ◌/◌, ◌%◌, Bool, cond, List, [], ◌++◌, take}
use Rattle.digits.specs.Digits.{decimal, hex, fixed}
use Rattle.digits.specs.Pairs.{pairs}
use Rattle.digits.specs.Text.{text, labelled}
use Rattle.asc_lines.specs.declared.told.Head.{Head}
use Rattle.asc_lines.specs.declared.told.Frame.{Frame}
use Rattle.asc_lines.specs.declared.told.Counts.{Counts}
use Rattle.asc_lines.specs.declared.told.Body.{Body}
use Rattle.asc_lines.specs.declared.told.Body.TheVariants.{Message, Overload, Statistic}
use Rattle.asc_lines.specs.declared.told.Told.{Told}
use Rattle.asc_lines.specs.Told.{shown}

-- `TIME CHANNEL`: the time is seconds with nine decimals
unfoldable pub head_of : Head → List ℕ
head_of h = decimal h.seconds ++ text "." ++ fixed 10 9 h.nanos ++ labelled (text " ") h.channel

-- an `x` follows an extended id
abbrev pub mark_of : Bool → List ℕ
mark_of extended = cond extended (text "x") []

-- ` ID`
unfoldable pub id_of : Frame → List ℕ
id_of f = text " " ++ hex f.id ++ mark_of f.extended

-- the direction; data, or remote
abbrev pub way_of : Bool → List ℕ
way_of sent = cond sent (text " Tx") (text " Rx")

abbrev pub sort_of : Bool → List ℕ
sort_of remote = cond remote (text " r ") (text " d ")

-- ` Rx d DLC BYTES`
unfoldable pub frame_of : Frame → List ℕ
frame_of f =
    way_of f.sent ++ sort_of f.remote ++ decimal f.dlc ++ pairs (take (shown f.remote f.dlc) f.bytes)

-- ` B p.pp%`
unfoldable pub load_of : ℕ → List ℕ
load_of load = labelled (text " B ") (load / 100) ++ text "." ++ fixed 10 2 (load % 100) ++ text "%"

-- ` Statistic: D n R n XD n XR n`: the frames counted
abbrev pub frames_of : Counts → List ℕ
frames_of c =
    labelled (text " Statistic: D ") c.standard_data
    ++ labelled (text " R ") c.standard_remote
    ++ labelled (text " XD ") c.extended_data
    ++ labelled (text " XR ") c.extended_remote

-- ` Statistic: D n R n XD n XR n E n O n B p.pp%`
unfoldable pub counts_of : Counts → List ℕ
counts_of c = frames_of c ++ labelled (text " E ") c.errors ++ labelled (text " O ") c.overloads ++ load_of c.load

-- what stands behind the channel
unfoldable pub rest_of : Body → List ℕ
rest_of (Message f) = id_of f ++ frame_of f
rest_of Overload = text " OverloadFrame"
rest_of (Statistic c) = counts_of c

-- the line of what is told
unfoldable pub line_of : Told → List ℕ
line_of t = head_of t.head ++ rest_of t.body ++ text "\r\n"
