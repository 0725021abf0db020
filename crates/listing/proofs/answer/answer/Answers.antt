-- `answer` meets its contract: what came of reading decides whether a listing is printed. Assumes nothing.
use Rattle.listing.proofs.Reading.{prints-listing, prints-unreadable}
use Rattle.listing.proofs.answer.answer.Goals as goal

pub returns-in-Some : goal.returns-in-Some
returns-in-Some c = prints-listing _ _ _ c.in-Some.is c.first.ensures c.list.ensures

pub returns-in-None : goal.returns-in-None
returns-in-None c = prints-unreadable _ _ c.in-None.is c.append.ensures
