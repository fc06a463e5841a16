-- Auxiliary: the tokens that are printed for data.
use Rattle.std.specs.Prelude.{List, flat_map}
use Rattle.json.specs.Token.{Token}
use Rattle.json.specs.Tree.{json_tokens}
use Rattle.serde_json.specs.Data.{Data}
use Rattle.serde_json.specs.Written.{outline}

-- `tokens_of d` is the tokens of `d`
abbrev pub tokens_of : Data → List Token
tokens_of d = json_tokens (outline d)

-- `values_of ds` is the tokens of `ds`, one after the other
abbrev pub values_of : List Data → List Token
values_of ds = flat_map tokens_of ds
