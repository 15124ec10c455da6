-- What waits in the sender is what is sent for the telegram.
use Rattle.asisend.proofs.Events.{sent_words}
use Rattle.asisend.proofs.recording.push_telegram.Goals as goal

pub returns : goal.returns
returns g c =
    let made = rw c.unwrap-height.ensures at c.try_from.ensures in
    sent_words _ c.args.closing _ _ _ _ made.1 c.with-sender.ensures.list c.in_ok-pour.ensures.kept
