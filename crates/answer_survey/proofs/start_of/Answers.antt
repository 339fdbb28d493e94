-- `answer_survey::start_of` meets its contract: the constant of the code is the list of the definition. Assumes nothing.
use Rattle.answer_survey.proofs.Surveys.{start_same}
use Rattle.answer_survey.proofs.start_of.Goals as goal

pub returns : goal.returns
returns c = start_same c.args.m c.requires
