-- The answers of questions.
use Rattle.std.specs.Prelude.{◌≡◌, ℕ, List, Option, Some, None, Result, Ok, Err}
use Rattle.std.specs.Global.{Vec}
use Rattle.heap_class.specs.declared.IdSize.{IdSize}
use Rattle.heap_class.specs.declared.Refusal.{Refusal}
use Rattle.heap_trail.specs.Machine.{Machine}
use Rattle.hprof_text.specs.Image.{Image}
use Rattle.question_text.specs.declared.answers.PairQuestion.{PairQuestion}
use Rattle.question_text.specs.declared.answers.StateQuestion.{StateQuestion}
use Rattle.question_grammar.specs.declared.chain.Chain.{Chain}
use Rattle.question_grammar.specs.declared.question.Question.{Question}
use Rattle.question_grammar.specs.declared.question.Question.TheVariants.{Histogram, Garbage, Growth, Kept, Diff, Registers, Classes, Objects, Values, Referrers, Path, Paths, Retained, Dominators, Dominated, Dominator, Show, Born, Wrote, Watch, Writes, When, WhenCount, Dropped, Life, History, Cycles, Pins, Cells, Regions, Status}
use Rattle.question_rows.specs.Births.{IsBornText}
use Rattle.question_rows.specs.CellLists.{IsCellsText}
use Rattle.question_rows.specs.ClassLists.{IsClassesText}
use Rattle.question_rows.specs.CycleLists.{IsCyclesText}
use Rattle.question_rows.specs.Diffs.{IsDiffText}
use Rattle.question_text.specs.DominatorRows.{IsDominatedText, IsDominatorText, IsDominatorsText}
use Rattle.question_rows.specs.Histograms.{IsGarbageText, IsHistogramText, IsRetainedText}
use Rattle.question_rows.specs.FirstPlaces.{IsWhenCountText, IsWhenText}
use Rattle.question_words.specs.Moments.{IsAnswerAbout, IsAnswerBetween, image_at, refused_text}
use Rattle.question_rows.specs.Growths.{IsGrowthText}
use Rattle.question_text.specs.Comments.{unasked_text}
use Rattle.question_text.specs.ShownChains.{IsChainAnswer}
use Rattle.question_rows.specs.Histories.{IsHistoryText}
use Rattle.question_rows.specs.Kept.{IsKeptText}
use Rattle.question_rows.specs.Lives.{IsLifeText}
use Rattle.question_rows.specs.Losses.{IsDroppedText}
use Rattle.question_grammar.specs.Bookmarks.{Bookmarks}
use Rattle.question_grammar.specs.Chains.{chain_of}
use Rattle.question_grammar.specs.NamedLines.{question_in}
use Rattle.question_rows.specs.ObjectLists.{IsObjectsText}
use Rattle.question_rows.specs.Objects.{IsShowText, shows_mark}
use Rattle.question_rows.specs.PastAnswers.{IsAnswerSeen, IsAnswerUpTo}
use Rattle.question_rows.specs.Paths.{IsPathText}
use Rattle.question_rows.specs.PathLists.{IsPathsText}
use Rattle.question_rows.specs.PinLists.{IsPinsText}
use Rattle.question_rows.specs.RegionLists.{IsRegionsText}
use Rattle.question_rows.specs.Registers.{IsRegistersText}
use Rattle.question_rows.specs.Referrers.{IsReferrersText}
use Rattle.question_rows.specs.SlotChanges.{IsWatchText}
use Rattle.question_rows.specs.SlotWrites.{IsWritesText}
use Rattle.question_rows.specs.Statuses.{IsStatusText}
use Rattle.question_rows.specs.ValueLists.{IsValuesText}
use Rattle.question_rows.specs.Writes.{IsWroteText}

-- the text of the answer about an image to what a question asks about one state
abbrev pub IsStateText : StateQuestion → IdSize → Image → List ℕ → Type 0
IsStateText StateQuestion.Histogram ids = IsHistogramText ids
IsStateText StateQuestion.Garbage ids = IsGarbageText ids
IsStateText StateQuestion.Registers ids = IsRegistersText
IsStateText StateQuestion.Classes ids = IsClassesText
IsStateText (StateQuestion.Objects wanted) ids = IsObjectsText wanted
IsStateText (StateQuestion.Values k s) ids = IsValuesText k s
IsStateText (StateQuestion.Referrers x) ids = IsReferrersText x
IsStateText (StateQuestion.Path x) ids = IsPathText x
IsStateText (StateQuestion.Paths x n) ids = IsPathsText x n
IsStateText (StateQuestion.Retained x) ids = IsRetainedText x ids
IsStateText (StateQuestion.Dominators most) ids = IsDominatorsText most ids
IsStateText (StateQuestion.Dominated x most) ids = IsDominatedText x most ids
IsStateText (StateQuestion.Dominator x) ids = IsDominatorText x
IsStateText (StateQuestion.Show x slots marked) ids = IsShowText x slots marked

-- the text of the answer about two images
abbrev pub IsPairText : PairQuestion → IdSize → Image → Image → List ℕ → Type 0
IsPairText PairQuestion.Growth ids = IsGrowthText ids
IsPairText PairQuestion.Kept ids = IsKeptText ids
IsPairText PairQuestion.Diff ids = IsDiffText

-- what is printed: the lines, or the refusal
abbrev pub lines_text : Result (Vec ℕ) Refusal → List ℕ
lines_text (Ok text) = text.items
lines_text (Err e) = refused_text e

-- the text of a question's answer about a machine, which may have a chronicle of this length
abbrev pub IsAnswer : Question → Machine → Option ℕ → List ℕ → Type 0
IsAnswer (Histogram at) m acts text = IsAnswerAbout (IsHistogramText m.ids) (image_at at m) text
IsAnswer (Garbage at) m acts text = IsAnswerAbout (IsGarbageText m.ids) (image_at at m) text
IsAnswer (Growth older newer) m acts text =
    IsAnswerBetween (IsGrowthText m.ids) (image_at older m) (image_at newer m) text
IsAnswer (Kept older newer) m acts text =
    IsAnswerBetween (IsKeptText m.ids) (image_at older m) (image_at newer m) text
IsAnswer (Diff older newer) m acts text =
    IsAnswerBetween IsDiffText (image_at older m) (image_at newer m) text
IsAnswer (Registers at) m acts text = IsAnswerAbout IsRegistersText (image_at at m) text
IsAnswer (Classes at) m acts text = IsAnswerAbout IsClassesText (image_at at m) text
IsAnswer (Objects at wanted) m acts text =
    IsAnswerAbout (IsObjectsText wanted) (image_at at m) text
IsAnswer (Values at k s) m acts text = IsAnswerAbout (IsValuesText k s) (image_at at m) text
IsAnswer (Referrers at x) m acts text = IsAnswerAbout (IsReferrersText x) (image_at at m) text
IsAnswer (Path at x) m acts text = IsAnswerAbout (IsPathText x) (image_at at m) text
IsAnswer (Paths at x n) m acts text = IsAnswerAbout (IsPathsText x n) (image_at at m) text
IsAnswer (Retained at x) m acts text = IsAnswerAbout (IsRetainedText x m.ids) (image_at at m) text
IsAnswer (Dominators at most) m acts text =
    IsAnswerAbout (IsDominatorsText most m.ids) (image_at at m) text
IsAnswer (Dominated at x most) m acts text =
    IsAnswerAbout (IsDominatedText x most m.ids) (image_at at m) text
IsAnswer (Dominator at x) m acts text = IsAnswerAbout (IsDominatorText x) (image_at at m) text
IsAnswer (Show at x slots) m acts text =
    IsAnswerAbout (IsShowText x slots (shows_mark at m x)) (image_at at m) text
IsAnswer (Born to x) m acts text = IsAnswerUpTo (IsBornText x) to m.trail text
IsAnswer (Wrote to x s) m acts text = IsAnswerSeen (IsWroteText x s) to m.trail text
IsAnswer (Watch x s to) m acts text = IsAnswerSeen (IsWatchText x s) to m.trail text
IsAnswer (Writes k s span) m acts text = IsWritesText k s span m.trail text
IsAnswer (When wanted span) m acts text = IsWhenText wanted span m.trail text
IsAnswer (WhenCount k n span) m acts text = IsWhenCountText k n span m.trail text
IsAnswer (Dropped to x) m acts text = IsAnswerUpTo (IsDroppedText x) to m.trail text
IsAnswer (Life x) m acts text = IsLifeText x m.trail text
IsAnswer (History to count) m acts text = IsHistoryText to count m.trail text
IsAnswer Cycles m acts text = IsCyclesText m.trail text
IsAnswer Pins m acts text = IsPinsText m.pins text
IsAnswer Cells m acts text = IsCellsText m.trail.current text
IsAnswer (Regions at) m acts text = IsRegionsText at m text
IsAnswer Status m acts text = IsStatusText m acts text

-- the answer of a line that shows an object along these fields; or along none, and it may be a comment or ask for help
abbrev pub IsAnswerAlong : Option Chain → List ℕ → Machine → List ℕ → Type 0
IsAnswerAlong None l m text = text ≡ unasked_text l
IsAnswerAlong (Some c) l m text = IsChainAnswer c m text

-- the answer of a line that asks this question; or none, and it may show an object along fields
abbrev pub IsAnswerOf : Option Question → Option Chain → List ℕ → Machine → Option ℕ → List ℕ
    → Type 0
IsAnswerOf None chain l m acts text = IsAnswerAlong chain l m text
IsAnswerOf (Some q) chain l m acts text = IsAnswer q m acts text

-- the answer of a line that the grammar of sessions doesn't know and that sets nothing; names in it are those of the current state,
-- or of the one that it is about, and of these bookmarks
abbrev pub IsAnswerOfLine : List ℕ → Machine → Option ℕ → Bookmarks → List ℕ → Type 0
IsAnswerOfLine l m acts b text =
    IsAnswerOf (question_in b m.trail.current l) (chain_of b l) l m acts text
