-- W-207: wrong trays, each a function of what is common, the ids, the time stamps, the data and the output.
use Rattle.std.specs.Prelude.{ℕ, suc, ◌*◌, ◌-◌, cond, Err, List, ◌++◌, length, take, get_or, replicate, eqb}
use Rattle.fields.specs.Numbers.{zeros}
use Rattle.headers.specs.Format.{unit_ok}
use Rattle.tray.specs.declared.Common.{Common}
use Rattle.tray.specs.Answers.{TrayAnswer, All, Refused}
use Rattle.tray.specs.Tray.{messages_from, Tray, tray, in_turn, tray_of}
use Rattle.tray.specs.Claims.{each}

abbrev pub Program : Type 0
Program = Common → List ℕ → List ℕ → List ℕ → List ℕ → Tray

-- the one where all are written, else the other
abbrev pub by_answer : Tray → Tray → TrayAnswer → Tray
by_answer whole refused All = whole
by_answer whole refused (Err r) = refused

-- the messages in turn, whatever the slices
abbrev pub untested : Program
untested c is ts ds x = in_turn (messages_from c is ts ds 0 (length is)) x

-- 31 tried behind 7 and 10
abbrev pub tray_last : Program
tray_last c is ts ds x = by_answer (tray_of c is ts ds x) (untested c is ts ds x) (untested c is ts ds x).told.answer

-- the data bytes not counted
abbrev pub data_uncounted : Program
data_uncounted c is ts ds x = cond (eqb (length ts) (length is)) (untested c is ts ds x) (tray 0 (Refused 31 0) x)

-- the unit tried before the first message, so that a tray of none can be refused
abbrev pub unit_first : Program
unit_first c is ts ds x = cond (unit_ok c.unit) (tray_of c is ts ds x) (tray 0 (Refused 7 0) x)

-- all messages or none
abbrev pub all_or_none : Program
all_or_none c is ts ds x = by_answer (tray_of c is ts ds x) (tray 0 (tray_of c is ts ds x).told.answer x) (tray_of c is ts ds x).told.answer

-- the refused message counted
abbrev pub counts_refused : Program
counts_refused c is ts ds x =
    let t = tray_of c is ts ds x in
    by_answer t (tray (suc t.told.written) t.told.answer t.buffer) t.told.answer

-- the bytes behind the messages cleared
abbrev pub clears : Program
clears c is ts ds x =
    let t = tray_of c is ts ds x in
    let n = t.told.written * each c in
    tray t.told.written t.told.answer (take n t.buffer ++ zeros (length x - n))

-- the first time stamp for all messages
abbrev pub first_stamp : Program
first_stamp c is ts ds x = tray_of c is (replicate (length is) (get_or ts 0 0)) ds x
