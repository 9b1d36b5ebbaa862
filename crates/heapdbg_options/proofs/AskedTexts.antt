-- Texts that the words ask for.
use Rattle.std.proofs.Common.{◌≡◌, ◌∙◌, List, [], ◌∷◌, None, ap, codes, cond, false, inl, refl, sym, true}
use Rattle.std.specs.Prelude.{◌==◌, length, option_and_then}
use Rattle.std.proofs.lemmas.Slice.Eq.{bytes_eq-Decides}
use Rattle.clap.specs.Faults.{walk_fault}
use Rattle.clap.specs.Words.{Text, fault_of, subcommand_of}
use Rattle.clap.specs.declared.error.kind.ErrorKind.{ErrorKind}
use Rattle.clap.specs.declared.error.kind.ErrorKind.TheVariants.{DisplayHelp, DisplayVersion}
use Rattle.heapdbg_options.specs.CommandLine.{IsBadWith, heapdbg_line, settings_of, settings_under}
use Rattle.heapdbg_options.specs.Refusals.{IsCommandWith, IsMistake, IsRefusalOf, is_version, mistake_text, version_text}
use Rattle.heapdbg_options.specs.declared.settings.LineFault.{LineFault}
use Rattle.heapdbg_options.specs.declared.settings.LineFault.TheVariants.{Bad, CommandText, Memory, OptionText}

-- the parser knows no command `version`
no_settings : (program : Text) → settings_of (program ∷ codes "version" ∷ []) ≡ None
unfolding walk_fault
no_settings program = refl

-- so the words ask for no settings
version_words_ask_no_settings : (words : List Text) → is_version words ≡ true → settings_of words ≡ None
version_words_ask_no_settings [] e = cc
version_words_ask_no_settings (program ∷ []) e = cc
version_words_ask_no_settings (program ∷ word ∷ []) e =
    ap (λ w. settings_of (program ∷ w ∷ [])) ((bytes_eq-Decides word (codes "version")).0 e) ∙ no_settings program
version_words_ask_no_settings (program ∷ word ∷ next ∷ rest) e = cc

-- the version that a command asks for
pub version_refuses : (words : List Text) (line : LineFault) → is_version words ≡ true → IsCommandWith version_text line → IsRefusalOf words line
version_refuses words (Bad text) e h = absurd h
version_refuses words (OptionText text) e h = absurd h
version_refuses words (CommandText text) e h = (version_words_ask_no_settings words e, inl (e, h))
version_refuses words Memory e h = tt

-- a mistake in words in which the parser finds no fault
pub mistake_refuses : (words : List Text) (said : Text) (line : LineFault) → is_version words ≡ false → fault_of heapdbg_line words ≡ [] → option_and_then settings_under (subcommand_of heapdbg_line words) ≡ None
    → IsMistake said (subcommand_of heapdbg_line words) → IsBadWith (mistake_text said) line → IsRefusalOf words line
mistake_refuses words said (Bad text) version faultless none mistake told =
    let unset : settings_of words ≡ None = ap (λ f. cond (length f == 0) (option_and_then settings_under (subcommand_of heapdbg_line words)) None) faultless ∙ none in
    (unset, version, (λ e. (said, mistake, told)), (λ help. no_kind_of_fault DisplayHelp (sym faultless ∙ help)), (λ asked. no_kind_of_fault DisplayVersion (sym faultless ∙ asked)))
  where
    no_kind_of_fault : (kind : ErrorKind) → [] ≡ kind ∷ [] → ⊥
    no_kind_of_fault kind e = cc
mistake_refuses words said (OptionText text) version faultless none mistake told = absurd told
mistake_refuses words said (CommandText text) version faultless none mistake told = absurd told
mistake_refuses words said Memory version faultless none mistake told = tt
