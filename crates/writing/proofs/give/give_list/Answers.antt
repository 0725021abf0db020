-- `give_list` meets its contract: the values are stored and told, and the reader goes by how they ended. Assumes nothing.
use Rattle.writing.proofs.Giving.{list_tells, list-turns}
use Rattle.writing.proofs.give.give_list.Goals as goal

pub tell-requires : goal.tell-requires
tell-requires c = list_tells _ _ _ _ _ _ _ c.requires c.store_items-stored.ensures

pub returns : goal.returns
returns c = list-turns _ _ _ _ _ _ _ _ _ _ c.store_items-stored.ensures c.tell.ensures c.after_list.ensures
