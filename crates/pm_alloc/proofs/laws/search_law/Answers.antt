use Rattle.pm_alloc.proofs.Search.{searched_least}
use Rattle.pm_alloc.proofs.laws.search_law.Goals as goal

pub returns : goal.returns
returns c = searched_least
