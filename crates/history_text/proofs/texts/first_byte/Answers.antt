use Rattle.std.proofs.Common.{[], ◌∷◌, arith}
use Rattle.history_text.proofs.MarkPlaces.{byte_found, first_place_found}
use Rattle.history_text.proofs.texts.first_byte.Goals as goal

pub returns-clause-value : goal.returns-clause-value
returns-clause-value c =
    first_place_found c.args.text.now (c.args.byte ∷ []) c.memchr.result (omega arith) (byte_found c.args.text.now c.args.byte c.memchr.result c.memchr.ensures)
