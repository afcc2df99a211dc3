use Rattle.vcl_symbols.proofs.name_index.NameIndex.find.Goals as goal

pub returns : goal.returns
returns c = let found = c.self.invariant c.args.name.now in cc (c.self.view_is, found)
