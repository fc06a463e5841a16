-- Auxiliary: what the checks look at in a tree, as the code keeps it (used by proofs and invariants
-- only).
use Rattle.std.specs.Prelude.{ℕ, Bool, false, List, Option, flat_map, unwrap_or}
use Rattle.std.specs.BTreeMap.{BTreeMap, get}
use Rattle.std.specs.Option.{option_cmp}
use Rattle.std.specs.Ordering.{nat_cmp}
use Rattle.pq_syntax.specs.declared.parts.Setting.{Setting}
use Rattle.pq_checks.specs.Faults.{kind_faults, constant_faults}
use Rattle.pq_checks.specs.Members as members
use Rattle.pq_checks.specs.aux.Spots.{in_spot}
use Rattle.pq_checks.specs.declared.errors.fault.Fault.{Fault}
use Rattle.pq_checks.specs.declared.tree.members.ImportName.{ImportName}
use Rattle.pq_checks.specs.declared.tree.members.Member.{Member}
use Rattle.pq_checks.specs.declared.tree.members.Opted.{Opted}
use Rattle.pq_checks.specs.declared.tree.members.ReservedName.{ReservedName}
use Rattle.pq_checks.specs.declared.tree.spots.Spot.{Spot}

-- `member_seen m` is what contracts see of the member `m`
abbrev pub member_seen : Member → members.Member
member_seen m = record { item = m.item; owner = m.owner; holder = m.holder; name = m.name.now; number = m.number }

-- `name_seen n` is what contracts see of the reserved name `n`
abbrev pub name_seen : ReservedName → members.ReservedName
name_seen n = record { owner = n.owner; value = n.value.now.value }

-- `import_seen i` is what contracts see of the import `i`
abbrev pub import_seen : ImportName → members.ImportName
import_seen i = record { item = i.item; value = i.name.now.value }

-- `opted_seen o` is what contracts see of the option statement `o`
abbrev pub opted_seen : Opted → members.Opted
opted_seen o = record { holder = o.holder; setting = o.setting.now }

-- `setting_faults item o` is the errors of the constant of the option `o.1`, the option `o.0` of the
-- item `item`
abbrev pub setting_faults : ℕ → ℕ × Setting → List Fault
setting_faults item o = kind_faults o.1.constant.kind item o.0

-- `constants_in s` is the errors of the constants of the options of the statement of the spot `s`
abbrev pub constants_in : Spot → List Fault
constants_in s = flat_map constant_faults (in_spot members.constant_at s)

-- `allowed aliases enum` is whether the enum `enum` allows two values with one number, by `aliases`
abbrev pub allowed : BTreeMap (Option ℕ) Bool → Option ℕ → Bool
allowed aliases enum = unwrap_or (get (option_cmp nat_cmp) aliases enum) false
