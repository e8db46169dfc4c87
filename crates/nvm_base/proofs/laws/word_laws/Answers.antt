use Rattle.nvm_base.proofs.LawLemmas.{unsigned_law, places_law, shift_law, eq_law, and_law, or_law}
use Rattle.nvm_base.proofs.LawLemmas.{xor_law}
use Rattle.nvm_base.proofs.laws.word_laws.Goals as goal

pub returns : goal.returns
returns c = record {
  unsigned = unsigned_law;
  places = places_law;
  shift = shift_law;
  equal = eq_law;
  and = and_law;
  or = or_law;
  xor = xor_law;
}
