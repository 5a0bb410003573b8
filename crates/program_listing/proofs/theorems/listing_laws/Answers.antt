-- `program_listing::theorems::listing_laws`: the texts are all that is printed. Assumes nothing.
use mathlib.Core.Path.{refl}
use lib.Dec.{lit<}
use Rattle.program_listing.specs.Listing.{input_room}
use Rattle.program_listing.specs.ListingLaws.{ListingLaws}
use Rattle.program_listing.proofs.Texts.{whole, some, next_none, done, few}
use Rattle.program_listing.proofs.Input.{taken_printed}
use Rattle.program_listing.proofs.theorems.listing_laws.Goals as goal

laws : ListingLaws
laws = record { whole = whole; some = some; none = next_none; done = done; few = few; read = λ s. taken_printed s input_room (lit< tt) }

pub returns : goal.returns
returns c = (refl, laws)
