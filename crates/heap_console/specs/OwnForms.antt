-- The forms of lines that run the lines of a file, or begin a log.
use Rattle.std.specs.Prelude.{List, [], ◌∷◌, codes}
use Rattle.question_text.specs.Help.{LineForm, form_of}

-- lines that run the lines of a file, or begin a log
unfoldable pub own_forms : List LineForm
own_forms =
    form_of (codes "source") (codes "source PATH") (codes "source questions.session")
    (codes "runs the lines of a file")
    ∷ form_of (codes "log") (codes "log -|PATH") (codes "log hunt.session")
    (codes "puts the session into a new file, or ends that with -")
    ∷ []
