use Rattle.pq_proto.proofs.text_laws.places_of_text.Goals as goal

pub returns-clause-position : goal.returns-clause-position
returns-clause-position c = λ loose text offset within. c.positions_of_lines.ensures text offset within

pub returns-clause-offset : goal.returns-clause-offset
returns-clause-offset c = λ loose text place. c.offsets_of_lines.ensures text (record { line = place.line; character = place.character })
