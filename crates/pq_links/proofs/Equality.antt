-- What `==` tells of the values of this crate: it holds exactly of two that are the same, by the
-- shape of their types.
use Rattle.std.specs.Cmp.{booleans_Decides, unsigned_Decides}
use Rattle.std.specs.Cmp.Lexicographic.{pointwise, pointwise_decides, bytes_decides}
use Rattle.std.specs.Option.{option_eq}
use Rattle.pq_lex.proofs.SameLines.{same_lines_decides}
use Rattle.pq_syntax.proofs.Equality.{Told, no_field, one_field, fields, of_struct, no_variant, variants, of_enum, of_bare, nodes, option, parsed}
use Rattle.pq_links.specs.contracts.file_items as items
use Rattle.pq_links.specs.contracts.files as files
use Rattle.pq_links.specs.contracts.links as links
use Rattle.pq_links.specs.contracts.places as places

-- what is shown of a text with an error
pub shown : Told files.ShownPartialEq.TheImpl.ghosts.eq
shown = of_struct files.Shown.struct files.Shown.the_propositions (fields nodes (one_field booleans_Decides))

pub parsed_file : Told files.ParsedFilePartialEq.TheImpl.ghosts.eq
parsed_file =
    of_enum files.ParsedFile.enum
    (variants no_field
    (variants (fields parsed (fields shown (one_field same_lines_decides))) no_variant))

pub file_items : Told items.FileItemsPartialEq.TheImpl.ghosts.eq
file_items =
    of_enum items.FileItems.enum
    (variants no_field
    (variants (one_field nodes)
    (variants (one_field nodes)
    (variants (one_field nodes) no_variant))))

pub type_part : Told places.TypePartPartialEq.TheImpl.ghosts.eq
type_part = of_bare places.TypePart.the_type tt

-- a part of an item
pub part : Told places.PartPartialEq.TheImpl.ghosts.eq
part =
    of_enum places.Part.enum
    (variants no_field
    (variants no_field
    (variants no_field
    (variants (one_field type_part)
    (variants (one_field unsigned_Decides)
    (variants (one_field unsigned_Decides) no_variant))))))

pub import_statement : Told links.ImportPartialEq.TheImpl.ghosts.eq
import_statement = of_struct links.Import.struct links.Import.the_propositions (fields bytes_decides (one_field booleans_Decides))

-- the imports of a file, `None` where it is absent
pub file_imports : Told (option_eq (pointwise links.ImportPartialEq.TheImpl.ghosts.eq))
file_imports = option (pointwise_decides import_statement)

pub file_links : Told links.LinksPartialEq.TheImpl.ghosts.eq
file_links =
    let names = pointwise_decides bytes_decides in
    of_struct links.Links.struct links.Links.the_propositions (fields names (fields names (one_field names)))
