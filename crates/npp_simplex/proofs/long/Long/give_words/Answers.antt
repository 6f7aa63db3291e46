use Rattle.npp_simplex.proofs.LineForms.{some_limit, below_word}
use Rattle.npp_simplex.proofs.long.Long.give_words.Goals as goal

pub cut_words-requires-clause-limit : goal.cut_words-requires-clause-limit
cut_words-requires-clause-limit g c = rw c.word_limit-limit.ensures (below_word g.N.Exact.WIDTH)

pub gather_words-requires-clause-limit : goal.gather_words-requires-clause-limit
gather_words-requires-clause-limit g c = rw c.word_limit-limit.ensures (below_word g.N.Exact.WIDTH)

pub gather_words-requires-clause-some : goal.gather_words-requires-clause-some
gather_words-requires-clause-some g c = rw c.word_limit-limit.ensures (some_limit g.N.Exact.WIDTH g.met.N.Exact.width)
