-- Auxiliary: what the pass of an end knows.
use Rattle.std.specs.Prelude.{◌≡◌, true, List}
use Rattle.crossbeam_channel.specs.Claims.{Pass, view}
use Rattle.pq_mail.specs.declared.line.Line.{Line}

-- `put_by p` is what was put with `p`, `got_by p` what was got with it
abbrev pub put_by : {T : Type 0} → Pass T (Line T) → List T
put_by p = (view p).put

abbrev pub got_by : {T : Type 0} → Pass T (Line T) → List T
got_by p = (view p).got

-- `MayPut p` is that `p` is the pass that puts, `MayGet p` that it is the one that gets
abbrev pub MayPut : {T : Type 0} → Pass T (Line T) → Type 0
MayPut p = (view p).puts ≡ true

abbrev pub MayGet : {T : Type 0} → Pass T (Line T) → Type 0
MayGet p = (view p).gets ≡ true
