-- W-201: what a line tells, by the type of its object; and zeros for what a line of that type does not tell.
use Rattle.std.specs.Prelude.{ℕ, min, Bool, false, cond, replicate}
use Rattle.asc_lines.specs.declared.told.Head.{Head}
use Rattle.asc_lines.specs.declared.told.Frame.{Frame}
use Rattle.asc_lines.specs.declared.told.Counts.{Counts}
use Rattle.asc_lines.specs.declared.told.Body.{Body}
use Rattle.asc_lines.specs.declared.told.Body.TheVariants.{Message, Overload, Statistic}
use Rattle.asc_lines.specs.declared.told.Told.{Told}

unfoldable pub no_frame : Frame
no_frame = record { id = 0; extended = false; sent = false; remote = false; dlc = 0; bytes = replicate 8 0 }

unfoldable pub no_counts : Counts
no_counts =
    record {
      load = 0;
      standard_data = 0;
      extended_data = 0;
      standard_remote = 0;
      extended_remote = 0;
      errors = 0;
      overloads = 0;
    }

abbrev pub of_message : Head → Frame → Told
of_message h f = record { head = h; body = Message f }

abbrev pub of_overload : Head → Told
of_overload h = record { head = h; body = Overload }

abbrev pub of_statistic : Head → Counts → Told
of_statistic h c = record { head = h; body = Statistic c }

-- the object's type; its frame and its counts
abbrev pub body_number : Body → ℕ
body_number (Message f) = 1
body_number Overload = 3
body_number (Statistic c) = 4

abbrev pub body_frame : Body → Frame
body_frame (Message f) = f
body_frame Overload = no_frame
body_frame (Statistic c) = no_frame

abbrev pub body_counts : Body → Counts
body_counts (Message f) = no_counts
body_counts Overload = no_counts
body_counts (Statistic c) = c

-- how many bytes stand in a message's line: none behind `r`, else the first DLC of them, eight at most
unfoldable pub shown : Bool → ℕ → ℕ
shown remote dlc = cond remote 0 (min dlc 8)
