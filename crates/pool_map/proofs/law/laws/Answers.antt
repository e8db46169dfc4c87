use Rattle.pool_map.proofs.Points.{object_at-with_object_same, object_at-with_object_other}
use Rattle.pool_map.proofs.Points.{read-new, read-write_same, read-write_other, kind-write}
use Rattle.pool_map.proofs.Points.{read_root-write_root_same, read_root-write_root_other}
use Rattle.pool_map.proofs.Least.{least_free-some, least_free-none}
use Rattle.pool_map.proofs.law.laws.Goals as goal

pub returns-clause-object : goal.returns-clause-object
returns-clause-object c = (object_at-with_object_same, object_at-with_object_other)

pub returns-clause-new : goal.returns-clause-new
returns-clause-new c = read-new

pub returns-clause-field : goal.returns-clause-field
returns-clause-field c = (read-write_same, read-write_other, kind-write)

pub returns-clause-root : goal.returns-clause-root
returns-clause-root c = (read_root-write_root_same, read_root-write_root_other)

pub returns-clause-least : goal.returns-clause-least
returns-clause-least c = (least_free-some, least_free-none)
