-- Auxiliary (used by private clauses only): the tokens of a response up to its result.
use Rattle.std.specs.Prelude.{List, [], ◌∷◌, ◌++◌, codes}
use Rattle.json.specs.Token.{Token, begin_object, key, string}
use Rattle.pq_frame.specs.Labels.{LabelModel, label_data}
use Rattle.pq_proto.specs.aux.Printed.{tokens_of}

-- `start_tokens label` is the tokens of the response to the request `label`, up to its result.
abbrev pub start_tokens : LabelModel → List Token
start_tokens label =
    begin_object ∷ key (codes "id") ∷ (tokens_of (label_data label) ++ (key (codes "jsonrpc") ∷ string (codes "2.0") ∷ key (codes "result") ∷ []))
