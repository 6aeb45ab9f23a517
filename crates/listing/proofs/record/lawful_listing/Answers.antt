use Rattle.listing.proofs.Loading.{lawful_listing_lem}
use Rattle.listing.proofs.record.lawful_listing.Goals as goal

pub returns-clause-lawful : goal.returns-clause-lawful
returns-clause-lawful c = lawful_listing_lem c.args.input.now
