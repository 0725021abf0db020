-- `write_name` meets its contract: four words stored one after the other are the name's words written over. Assumes nothing.
use Rattle.page.proofs.Pages.{name-stored}
use Rattle.page.proofs.pen.write_name.Goals as goal

pub returns : goal.returns
returns c =
    name-stored _ c.args.name.now _ _ _ _ _ _ c.pack-words.ensures c.store.ensures c.store-2.ensures c.store-3.ensures c.store-4.ensures
