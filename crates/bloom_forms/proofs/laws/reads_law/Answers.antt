use Rattle.bloom_forms.proofs.Reach.Unfolding.{cone_unfolds, cone_folds, direct_unfolds, direct_folds, momentary_unfolds, momentary_folds}
use Rattle.bloom_forms.proofs.laws.reads_law.Goals as goal

pub returns-clause-cone : goal.returns-clause-cone
returns-clause-cone c = λ cs rules q n few lt. (cone_unfolds cs rules q few n lt, cone_folds cs rules q few n lt)

pub returns-clause-direct : goal.returns-clause-direct
returns-clause-direct c = λ cs rules q n few lt. (direct_unfolds cs rules q few n lt, direct_folds cs rules q few n lt)

pub returns-clause-momentary : goal.returns-clause-momentary
returns-clause-momentary c = λ cs rules q few. (momentary_unfolds cs rules q few, momentary_folds cs rules q few)
