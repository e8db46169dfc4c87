use Rattle.pool_layout.specs.declared.places.Place.TheVariants.{Last}
use Rattle.pool_layout.specs.Places.{at, pool_of}
use Rattle.cut_law.proofs.Cuts.{call_is, cut_call, call_at_rest, retires_any}
use Rattle.cut_law.proofs.Cleans.{cut_clean}
use Rattle.cut_law.proofs.Leaving.{call_leaves, redo_leaves}
use Rattle.cut_law.proofs.Recoveries.{cut_again}
use Rattle.cut_law.proofs.Redoes.{cut_redo, redo_at_rest}
use Rattle.cut_law.proofs.law.Goals as goal

pub returns-clause-due : goal.returns-clause-due
returns-clause-due c = λ p image super tx args c one d end es b r.
    call_is p image super tx args c one d end es b.tx_fits r.few b.d_fits b.only b.good b.a_fits
    b.empty r.ran r.sound

pub returns-clause-cut : goal.returns-clause-cut
returns-clause-cut c = λ p image super tx args c one d end es b r.
    cut_call p image super tx args c one d end es b.tx_fits r.few b.d_fits b.only b.good b.a_fits
    b.empty r.ran r.sound

pub returns-clause-redo : goal.returns-clause-redo
returns-clause-redo c = λ p image super tx args c one d h last end es n only o r.
    cut_redo p image super tx args c one d h last end es r.few only o.owed r.ran r.sound n o.counted
    o.room

pub returns-clause-clean : goal.returns-clause-clean
returns-clause-clean c = λ image super c one d h n only g.
    cut_clean image super c one d h only g.good n g.counted g.room

pub returns-clause-rest : goal.returns-clause-rest
returns-clause-rest c = λ p image super tx args c one d last end es retires rest. (
  λ b r. call_at_rest p image super tx args c one d end es b.tx_fits r.few b.d_fits b.only b.good
      b.a_fits b.empty r.ran r.sound
      (retires_any p last (one (at (pool_of image.parts.sizes) Last)) end retires) rest,
  λ h n only o r. redo_at_rest p image super tx args c one d h last end es r.few only o.owed r.ran
      r.sound n o.counted o.room retires rest,
)

pub returns-clause-again : goal.returns-clause-again
returns-clause-again c = λ p image super tx args d h last end es r.
    cut_again p image super tx args d h last end es r.few r.ran r.sound

pub returns-clause-called : goal.returns-clause-called
returns-clause-called c = λ p image super tx args d b one n end es begins r.
    call_leaves p image super tx args d b one n end es begins.tx_fits r.few begins.d_fits
    begins.only begins.good begins.a_fits begins.empty r.ran r.sound

pub returns-clause-redid : goal.returns-clause-redid
returns-clause-redid c = λ p image super tx args d b one n h last end es m only o r.
    redo_leaves p image super tx args d b one n h last end es r.few only o.owed r.ran r.sound m
    o.counted o.room
