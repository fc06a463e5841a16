-- What contracts see of the ends of a mailbox.
use Rattle.std.specs.Prelude.{◌≡◌, List, [], ◌++◌, length}
use Rattle.atomic_table.specs.Seated.{TableId}
use Rattle.atomic_table.specs.declared.badge.Badge.{Badge}
use Rattle.crossbeam_channel.specs.declared.flavors.array.Key.{Key}
use Rattle.pq_mail.specs.declared.ends.Unput.{Unput}
use Rattle.pq_mail.specs.declared.ends.Unput.TheVariants.{Full, Gone}

-- `Side T` is an end of a mailbox: the mailbox's name (two ends are of one mailbox if `table` and
-- `key` are the same), and the items that the end has put or got, in order
pub record Side (T : Type 0) : Type 0 where
  pub table : TableId
  pub key : Badge (Key T)
  pub items : List T

-- `HasNoRoom put` is that at one moment the mailbox held 32 items, the last of `put`
pub record HasNoRoom {T : Type 0} (put : List T) : Type 0 where
  pub got : List T
  pub held : List T
  pub full : length held ≡ 32
  pub parts : put ≡ got ++ held

-- `IsPrefixOf got put` is that `put` begins with `got`
pub record IsPrefixOf {T : Type 0} (got put : List T) : Type 0 where
  pub rest : List T
  pub parts : put ≡ got ++ rest

-- `refused_item fault` is the item that comes back
abbrev pub refused_item : {T : Type 0} → Unput T → T
refused_item (Full item) = item
refused_item (Gone item) = item

-- `IsFullPut fault` is that the mailbox was full
abbrev pub IsFullPut : {T : Type 0} → Unput T → Type 0
IsFullPut (Full item) = Unit {0}
IsFullPut (Gone item) = ⊥

-- `no_items side` is the empty list: an end that puts hands no item out
abbrev pub no_items : {T : Type 0} → Side T → List T
no_items side = []
