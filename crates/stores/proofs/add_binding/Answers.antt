use Rattle.stores.proofs.add_binding.Goals as goal

pub returns : goal.returns
returns c = rw (c.put_binding.ensures, c.binding_behind-made.ensures)
