use Rattle.npp_reader.specs.Names.{texts}
use Rattle.npp_reader.proofs.NameLemmas.{names_push, put_texts}
use Rattle.npp_reader.proofs.names.Names.push.Goals as goal

pub invariant_of-self-2 : goal.invariant_of-self-2
invariant_of-self-2 c =
    let put = put_texts c.self.inside.index.keys c.in_ok-name.name c.insert.new.self.keys c.in_ok-insert.ensures.keys (rw (c.in_ok-name.ensures.ok, c.self.view_is) c.requires.differs) in
    rw (put, c.in_ok-name.ensures.ok) (names_push (texts c.self.inside.index.keys) c.args.name.now c.self.invariant c.requires.is_name (rw c.self.view_is c.requires.differs))

pub returns : goal.returns
returns c =
    let put = put_texts c.self.inside.index.keys c.in_ok-name.name c.insert.new.self.keys c.in_ok-insert.ensures.keys (rw (c.in_ok-name.ensures.ok, c.self.view_is) c.requires.differs) in
    rw (put, c.in_ok-name.ensures.ok, c.self.view_is)
