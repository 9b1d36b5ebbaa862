-- What a request asks of the page's server.
use Rattle.std.specs.Prelude.{◌++◌, ◌&&◌, ◌||◌, ◌==◌, ℕ, Bool, true, false, not, List, [], ◌∷◌, codes, decimal, is_some, if◌then◌else◌}
use Rattle.std.specs.Str.{bytes_eq}
use Rattle.http_header.specs.FieldValue.{FieldValue}
use Rattle.http_header.specs.HeaderMap.{get_all}
use Rattle.http_uri.specs.Uri.{uri_authority, uri_path, uri_query}
use Rattle.http.specs.declared.request.Parts.{Parts}
use Rattle.heap_page.specs.declared.admission.Asked.{Asked}
use Rattle.heap_page.specs.declared.admission.Asked.TheVariants.{Page, Line, Dump, Refused}

-- the port of the page's server, the key that its questions must have, and the time in the headers of dumps
pub record PageTerms : Type 0 where
  pub port : ℕ
  pub key : List ℕ
  pub time : ℕ

-- ---- the names of the server

-- this computer, by its number, and the port
abbrev pub host_by_number : ℕ → List ℕ
host_by_number port = codes "127.0.0.1:" ++ decimal port

-- this computer, by its name, and the port
abbrev pub host_by_name : ℕ → List ℕ
host_by_name port = codes "localhost:" ++ decimal port

-- the origin of the pages of a host
abbrev pub origin_of : List ℕ → List ℕ
origin_of host = codes "http://" ++ host

-- the text names this computer alone, and the port is the one that HTTP then means
abbrev pub is_bare_host : ℕ → List ℕ → Bool
is_bare_host port text =
    (port == 80)
    && (bytes_eq text (codes "127.0.0.1") || bytes_eq text (codes "localhost"))

-- the text names this server
abbrev pub is_own_host : ℕ → List ℕ → Bool
is_own_host port text =
    bytes_eq text (host_by_number port)
    || (bytes_eq text (host_by_name port) || is_bare_host port text)

-- the text is the origin of a page of this computer without a port, and the port is the one that HTTP then means
abbrev pub is_bare_origin : ℕ → List ℕ → Bool
is_bare_origin port text =
    (port == 80)
    && (bytes_eq text (codes "http://127.0.0.1") || bytes_eq text (codes "http://localhost"))

-- the text is the origin of a page of this server
abbrev pub is_own_origin : ℕ → List ℕ → Bool
is_own_origin port text =
    bytes_eq text (origin_of (host_by_number port))
    || (bytes_eq text (origin_of (host_by_name port)) || is_bare_origin port text)

-- ---- who may ask

-- there is only one host, and it is this server
abbrev pub has_own_host : PageTerms → List FieldValue → Bool
has_own_host t (v ∷ []) = is_own_host t.port v.bytes
has_own_host t _ = false

-- there is no origin, or only one, and it is that of a page of this server
abbrev pub has_own_origin : PageTerms → List FieldValue → Bool
has_own_origin t [] = true
has_own_origin t (v ∷ []) = is_own_origin t.port v.bytes
has_own_origin t _ = false

-- there is only one key, and it is the page's
abbrev pub has_key : PageTerms → List FieldValue → Bool
has_key t (v ∷ []) = bytes_eq v.bytes t.key
has_key t _ = false

-- the request comes by a name of this server and from no other page, and asks for no other server
abbrev pub is_admitted : PageTerms → Parts → Bool
is_admitted t h =
    not (is_some (uri_authority h.uri))
    && (has_own_host t (get_all h.headers (codes "host"))
    && has_own_origin t (get_all h.headers (codes "origin")))

-- ---- what is asked

-- what is asked of the page by this method
abbrev pub asked_page : List ℕ → Asked
asked_page method =
    if bytes_eq method (codes "GET") || bytes_eq method (codes "HEAD") then Page else Refused 405

-- what is asked by this method, with the key or not
abbrev pub asked_with : List ℕ → Bool → Asked → Asked
asked_with method keyed asked =
    if bytes_eq method (codes "POST") then (if keyed then asked else Refused 401) else Refused 405

-- what is asked by this path and method, with the key or not
abbrev pub asked_by : List ℕ → List ℕ → Bool → Asked
asked_by path method keyed =
    if bytes_eq path (codes "/") then asked_page method
    else (if bytes_eq path (codes "/ask") then asked_with method keyed Line
    else (if bytes_eq path (codes "/dump") then asked_with method keyed Dump else Refused 404))

-- what a request asks
abbrev pub asked_of : PageTerms → Parts → Asked
asked_of t h =
    if is_admitted t h
    then (if is_some (uri_query h.uri) then Refused 404
    else asked_by (uri_path h.uri) h.method
    (has_key t (get_all h.headers (codes "x-heapdbg-key"))))
    else Refused 403
