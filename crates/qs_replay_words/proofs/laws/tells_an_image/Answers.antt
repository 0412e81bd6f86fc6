-- The numbers that words tell are within their bounds.
use Rattle.qs_replay_words.proofs.Within.{image_of}
use Rattle.qs_replay_words.proofs.laws.tells_an_image.Goals as goal

pub returns : goal.returns
returns c = image_of
