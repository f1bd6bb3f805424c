-- `preview_once` meets its contract: the session that `open` gives is passed to `preview`, and what the two contracts say of it is put
-- together.
use Rattle.std.proofs.Common.{◌∙◌, refl}
use Rattle.sequencer.specs.Previews.{session_preview}
use Rattle.sessions.proofs.preview_once.Goals as goal

pub returns-clause-preview_value : goal.returns-clause-preview_value
unfolding session_preview
returns-clause-preview_value c =
    c.preview-shown.ensures ∙ rw (c.open-opened.ensures.tape_value, c.open-opened.ensures.state_value) refl
