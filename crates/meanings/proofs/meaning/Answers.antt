-- `meaning` meets its contract: each kind of word by its name.
use Rattle.meanings.proofs.meaning.Goals as goal

pub returns-in-Heading : goal.returns-in-Heading
returns-in-Heading c = rw c.in-Heading.is c.one.ensures

pub returns-in-P : goal.returns-in-P
returns-in-P c = rw c.in-P.is c.one-in-P.ensures

pub returns-in-R : goal.returns-in-R
returns-in-R c = rw c.in-R.is c.one-in-R.ensures

pub returns-in-K : goal.returns-in-K
returns-in-K c = rw c.in-K.is c.one-in-K.ensures

pub returns-in-Action : goal.returns-in-Action
returns-in-Action c = rw c.in-Action.is c.step_meaning.ensures

pub returns-in-End : goal.returns-in-End
returns-in-End c = rw c.in-End.is c.one-in-End.ensures

pub returns-in-Bad : goal.returns-in-Bad
returns-in-Bad c = rw c.in-Bad.is c.none.ensures
