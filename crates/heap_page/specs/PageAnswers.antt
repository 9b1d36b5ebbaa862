-- What the page's server answers.
use Rattle.std.specs.Prelude.{◌≡◌, ◌⊎◌, ℕ, List, [], ◌∷◌, ◌++◌, Option, Some, None, Result, Ok, Err, codes, length}
use mathlib.Core.List.{IsPrefix}
use Rattle.heap_class.specs.declared.IdSize.{IdSize}
use Rattle.heap_class.specs.declared.Refusal.{Refusal}
use Rattle.heap_class.specs.declared.Refusal.TheVariants.{NoMemory}
use Rattle.heap_class.specs.Table.{refusal_name}
use Rattle.heap_lock.specs.HeapLimits.{HeapSettings}
use Rattle.heap_lock.specs.Machine.{Machine}
use Rattle.heap_lock.specs.Entry.{Entry}
use Rattle.heap_lock.specs.Calls.{Call, IsHeapLedger}
use Rattle.hprof_text.specs.Image.{Image}
use Rattle.hprof_text.specs.Segments.{dump_text}
use Rattle.http.specs.declared.request.Request.{Request}
use Rattle.http.specs.Request.{body_of, head_of}
use Rattle.http1.specs.Fields.{Header}
use Rattle.http_server.specs.declared.response.Response.{Response}
use Rattle.http_server.specs.Response.{IsResponse}
use Rattle.question_text.specs.Answers.{IsAnswerOfLine}
use Rattle.question_words.specs.Moments.{image_at}
use Rattle.question_grammar.specs.Bookmarks.{no_bookmarks}
use Rattle.question_grammar.specs.Questions.{at_of_word}
use Rattle.question_words.specs.declared.at.At.{At}
use Rattle.heap_page.specs.Admission.{PageTerms, asked_of}
use Rattle.heap_page.specs.declared.admission.Asked.{Asked}
use Rattle.heap_page.specs.declared.admission.Asked.TheVariants.{Page, Line, Dump, Refused}
use Rattle.heap_page.specs.declared.page_text.TheConstants.{PAGE, POLICY}

-- the terms of a page, and the calls on the heap that its server has seen
pub record Watched : Type 0 where
  pub terms : PageTerms
  pub seen : List Call

-- all calls on the heap so far, of which `seen` are the first, lead to this machine and leave this chronicle
abbrev pub IsHeapSeen : HeapSettings → List Call → Machine → List Entry → List Call → Type 0
IsHeapSeen config seen m chronicle seen' =
    IsPrefix seen seen' × IsHeapLedger config m chronicle seen'

-- ---- fields

-- the fields of each response
abbrev pub fixed_fields : List Header
fixed_fields =
    (codes "cache-control", codes "no-store")
    ∷ (codes "x-content-type-options", codes "nosniff")
    ∷ (codes "referrer-policy", codes "no-referrer")
    ∷ (codes "x-frame-options", codes "DENY")
    ∷ (codes "cross-origin-resource-policy", codes "same-origin")
    ∷ (codes "cross-origin-opener-policy", codes "same-origin")
    ∷ []

-- the fields of a response with a body of this type
abbrev pub typed_fields : List ℕ → List Header
typed_fields kind = fixed_fields ++ (codes "content-type", kind) ∷ []

-- the fields of a response with a text
abbrev pub text_fields : List Header
text_fields = typed_fields (codes "text/plain; charset=us-ascii")

-- the fields of a response with a dump
abbrev pub dump_fields : List Header
dump_fields = typed_fields (codes "application/octet-stream")

-- the fields of the response with the page
abbrev pub page_fields : List Header
page_fields =
    typed_fields (codes "text/html; charset=utf-8")
    ++ (codes "content-security-policy", POLICY.now) ∷ []

-- ---- responses

-- the response with the answer of a line, about this machine and the length of this chronicle
abbrev pub IsAnswerResponse : List ℕ → Machine → List Entry → Response → Type 0
IsAnswerResponse line m chronicle r =
    (text : List ℕ) × IsAnswerOfLine line m (Some (length chronicle)) no_bookmarks text
    × IsResponse 200 text_fields text r

-- the same, about the heap's machine and chronicle
abbrev pub IsLineResponse : HeapSettings → List Call → List ℕ → Response → List Call → Type 0
IsLineResponse config seen line r seen' =
    (m : Machine) × (chronicle : List Entry) × IsHeapSeen config seen m chronicle seen'
    × IsAnswerResponse line m chronicle r

-- the status of a dump that is refused: 503 if memory was refused, else 409
abbrev pub dump_status : Refusal → ℕ
dump_status NoMemory = 503
dump_status _ = 409

-- the response with the name of a refusal
abbrev pub IsRefusalResponse : Refusal → Response → Type 0
IsRefusalResponse e r = IsResponse (dump_status e) text_fields (refusal_name e) r

-- the response with the dump of an image, or with the reason why there is none
abbrev pub IsImageResponse : IdSize → ℕ → Result Image Refusal → Response → Type 0
IsImageResponse ids time (Ok image) r =
    IsResponse 200 dump_fields (dump_text ids image time) r ⊎ IsRefusalResponse NoMemory r
IsImageResponse ids time (Err e) r = IsRefusalResponse e r

-- the response with the dump of the state that the body names, of the heap's machine; 400 if it names none
abbrev pub IsDumpResponse : HeapSettings → List Call → ℕ → Option At → Response → List Call
    → Type 0
IsDumpResponse config seen time None r seen' = IsResponse 400 fixed_fields [] r × (seen' ≡ seen)
IsDumpResponse config seen time (Some at) r seen' =
    (m : Machine) × (chronicle : List Entry) × IsHeapSeen config seen m chronicle seen'
    × IsImageResponse m.ids time (image_at at m) r

-- the response to what is asked, with this body
abbrev pub IsResponseTo : HeapSettings → Watched → Asked → List ℕ → Response → List Call → Type 0
IsResponseTo config s Page body r seen' =
    IsResponse 200 page_fields PAGE.now r × (seen' ≡ s.seen)
IsResponseTo config s Line body r seen' = IsLineResponse config s.seen body r seen'
IsResponseTo config s Dump body r seen' =
    IsDumpResponse config s.seen s.terms.time (at_of_word no_bookmarks body) r seen'
IsResponseTo config s (Refused status) body r seen' =
    IsResponse status fixed_fields [] r × (seen' ≡ s.seen)

-- the response to a request, about the heap's machine where it is asked about
abbrev pub IsResponseOf : HeapSettings → Watched → Request (List ℕ) → Response → Watched → Type 0
IsResponseOf config s request r s' =
    (s'.terms ≡ s.terms)
    × IsResponseTo config s (asked_of s.terms (head_of request)) (body_of request) r s'.seen
