-- Options as descriptors tell them (descriptor.proto, "UninterpretedOption"; proto3 language
-- specification, "Option").
use Rattle.std.specs.Prelude.{ℕ, cond, List, [], ◌∷◌, ◌++◌, map, flat_map, codes}
use Rattle.serde_json.specs.Data.{Data, string, object, member, no_members}
use Rattle.pq_syntax.specs.declared.parts.Constant.{Constant}
use Rattle.pq_syntax.specs.declared.parts.ConstantKind.{ConstantKind}
use Rattle.pq_syntax.specs.declared.parts.ConstantKind.TheVariants.{Identifier, Integer, Float, Text, Aggregate}
use Rattle.pq_syntax.specs.declared.parts.NamePart.{NamePart}
use Rattle.pq_syntax.specs.declared.parts.Setting.{Setting}
use Rattle.pq_syntax.specs.declared.tree.Statement.{Statement}
use Rattle.pq_syntax.specs.declared.tree.Statement.TheVariants.{Option as OptionStatement}
use Rattle.pq_syntax.specs.Places.{Item}
use Rattle.pq_proto.specs.Bodies.{Body, each}
use Rattle.pq_proto.specs.Lists.{list_data}

-- `part_text p` is the part `p` of an option's name, an extension's name in parentheses
abbrev pub part_text : NamePart → List ℕ
part_text p = cond p.is_extension (codes "(" ++ p.text ++ codes ")") p.text

-- `option_name parts` is the name of an option: its tokens, joined
abbrev pub option_name : List NamePart → List ℕ
option_name [] = []
option_name (p ∷ ps) = part_text p ++ flat_map (λ q. codes "." ++ part_text q) ps

-- `kind_name kind` is the name of the kind `kind` of a constant
abbrev pub kind_name : ConstantKind → List ℕ
kind_name Identifier = codes "identifier"
kind_name Integer = codes "integer"
kind_name Float = codes "float"
kind_name Text = codes "string"
kind_name Aggregate = codes "aggregate"

-- `constant_data c` is the constant `c`: its kind and its tokens
abbrev pub constant_data : Constant → Data
constant_data c =
    object (member (codes "kind") (string (kind_name c.kind)) (member (codes "text") (string c.text) no_members))

-- `option_data s` is the option `s`
abbrev pub option_data : Setting → Data
option_data s =
    object (member (codes "name") (string (option_name s.parts)) (member (codes "value") (constant_data s.constant) no_members))

-- `options_data settings` is the list of the options `settings`
abbrev pub options_data : List Setting → Data
options_data settings = list_data (map option_data settings)

-- `setting_of statement` lists the option that `statement` is, if it is one
abbrev pub setting_of : Statement → List Setting
setting_of (OptionStatement s) = s ∷ []
setting_of _ = []

-- `settings_in body` lists the option statements of `body`
abbrev pub settings_in : Body → List Setting
settings_in = each (λ (i : Item) (inside : Body). setting_of i.node.statement)
