use Rattle.rv_model.proofs.Acts.{calls_act_at, asked_act, told_act}
use Rattle.rv_model.proofs.law.notes_tell_calls.Goals as goal

pub returns : goal.returns
returns c =
    λ local fetched heard.
    record { calls = calls_act_at local fetched heard; asked = asked_act local fetched heard; replied = λ calls thread e. told_act calls thread local fetched heard e }
