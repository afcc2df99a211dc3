-- The built-in subroutines as a tree without places, apart from the text that the code has of them. They do what Varnish's own do
-- (the Varnish Users Guide, "Built in VCL"), without pipes.
use Prim.Native.String.{String as Written}
use Rattle.std.specs.Prelude.{ℕ, ◌*◌, ◌≡◌, List, [], ◌∷◌, map, codes, pos}
use Rattle.vcl_tree.specs.Phrase.{Phrase, Nothing, At, Named, String, Weight, Integer, Duration, Node, Either, Both, Compared, Added, Not, Group, Called, Bound, Set, Branch, If, Else, Return, Sub, chain, list_of}
use Rattle.vcl_tree.specs.TreeView.{items_of}
use Rattle.vcl_tree.specs.declared.expression.Comparison.{Comparison}
use Rattle.vcl_tree.specs.declared.expression.Comparison.TheVariants.{Equal, NotEqual, LessOrEqual, Match}
use Rattle.vcl_tree.specs.declared.item.Tree.{Tree}
use Rattle.vcl_tree.specs.declared.item.Version.TheVariants.{FourOne}
use Rattle.vcl_store.specs.Joined.{built_in_text, IsTreeOf}

-- a tree with 0 in place of each place
abbrev pub bare : Phrase → Phrase
bare Nothing = Nothing
bare (At place) = At 0
bare (Named place text) = Named 0 text
bare (String place text) = String 0 text
bare (Weight place text) = Weight 0 text
bare (Integer place n) = Integer 0 n
bare (Duration place n) = Duration 0 n
bare (Node label a b) = Node label (bare a) (bare b)

-- operands
abbrev pub name : Written → Phrase
name word = Named 0 (codes word)

abbrev pub text : Written → Phrase
text bytes = String 0 (codes bytes)

abbrev pub number : ℕ → Phrase
number n = Integer 0 (pos n)

abbrev pub seconds : ℕ → Phrase
seconds n = Duration 0 (pos (1000 * n))

abbrev pub not : Phrase → Phrase
not operand = Node Not (At 0) operand

abbrev pub in_parentheses : Phrase → Phrase
in_parentheses inside = Node Group (At 0) inside

abbrev pub compare : Comparison → Written → Phrase → Phrase
compare how left right = Node (Compared how) (name left) right

-- statements
abbrev pub set : Written → Phrase → Phrase
set variable value = Node Set (At 0) (Node Bound (name variable) value)

abbrev pub run : Written → List Phrase → Phrase
run function arguments = Node Called (name function) (list_of arguments)

abbrev pub leave : Written → Phrase
leave word = Node Return (At 0) (name word)

abbrev pub leave_with : Written → List Phrase → Phrase
leave_with word arguments = Node Return (At 0) (run word arguments)

abbrev pub when : Phrase → List Phrase → Phrase
when condition statements = Node If (At 0) (Node Branch condition (list_of statements))

abbrev pub sub : Written → List Phrase → Phrase
sub word statements = Node Sub (At 0) (Node Bound (name word) (list_of statements))

-- the method is none of these
abbrev pub other_methods : Written → List Written → Phrase
other_methods first others = chain Both (compare NotEqual "req.method" (text first)) (map (λ word. compare NotEqual "req.method" (text word)) others)

-- the body of a made response is the status and the reason
abbrev pub status_and_reason : Written → Written → Phrase
status_and_reason status reason = chain Added (name status) (text " " ∷ name reason ∷ [])

abbrev pub recv : Phrase
recv =
    sub "vcl_recv"
    (when (chain Both (not (name "req.http.Host")) (compare Equal "req.proto" (text "HTTP/1.1") ∷ []))
    (leave_with "synth" (number 400 ∷ []) ∷ [])
    ∷ when (other_methods "GET" ("HEAD" ∷ "PUT" ∷ "POST" ∷ "TRACE" ∷ "OPTIONS" ∷ "DELETE" ∷ "PATCH" ∷ []))
    (leave_with "synth" (number 501 ∷ []) ∷ [])
    ∷ when (other_methods "GET" ("HEAD" ∷ [])) (leave "pass" ∷ [])
    ∷ when (chain Either (name "req.http.Authorization") (name "req.http.Cookie" ∷ [])) (leave "pass" ∷ [])
    ∷ leave "hash"
    ∷ [])

abbrev pub hash : Phrase
hash =
    sub "vcl_hash"
    (run "hash_data" (name "req.url" ∷ [])
    ∷ Node Else (when (name "req.http.Host") (run "hash_data" (name "req.http.Host" ∷ []) ∷ [])) (list_of (run "hash_data" (name "server.ip" ∷ []) ∷ []))
    ∷ leave "lookup"
    ∷ [])

abbrev pub synth : Phrase
synth =
    sub "vcl_synth"
    (set "resp.http.Content-Type" (text "text/plain")
    ∷ set "resp.body" (status_and_reason "resp.status" "resp.reason")
    ∷ leave "deliver"
    ∷ [])

-- the response may not be shared
abbrev pub is_private : Phrase
is_private =
    chain Either (compare LessOrEqual "beresp.ttl" (seconds 0))
    (name "beresp.http.Set-Cookie"
    ∷ compare Match "beresp.http.Surrogate-Control" (text "(?i)no-store")
    ∷ in_parentheses
    (chain Both (not (name "beresp.http.Surrogate-Control"))
    (compare Match "beresp.http.Cache-Control" (text "(?i)no-cache|no-store|private") ∷ []))
    ∷ compare Equal "beresp.http.Vary" (text "*")
    ∷ [])

abbrev pub backend_response : Phrase
backend_response =
    sub "vcl_backend_response"
    (when (name "bereq.uncacheable") (leave "deliver" ∷ [])
    ∷ when is_private (set "beresp.ttl" (seconds 120) ∷ set "beresp.uncacheable" (name "true") ∷ [])
    ∷ leave "deliver"
    ∷ [])

abbrev pub backend_error : Phrase
backend_error =
    sub "vcl_backend_error"
    (set "beresp.http.Content-Type" (text "text/plain")
    ∷ set "beresp.body" (status_and_reason "beresp.status" "beresp.reason")
    ∷ leave "deliver"
    ∷ [])

abbrev pub built_in : Phrase
built_in =
    list_of
    (recv
    ∷ hash
    ∷ sub "vcl_purge" (leave_with "synth" (number 200 ∷ text "Purged" ∷ []) ∷ [])
    ∷ sub "vcl_hit" (leave "deliver" ∷ [])
    ∷ sub "vcl_miss" (leave "fetch" ∷ [])
    ∷ sub "vcl_pass" (leave "fetch" ∷ [])
    ∷ sub "vcl_deliver" (leave "deliver" ∷ [])
    ∷ synth
    ∷ sub "vcl_backend_fetch" (leave "fetch" ∷ [])
    ∷ backend_response
    ∷ backend_error
    ∷ sub "vcl_init" (leave "ok" ∷ [])
    ∷ sub "vcl_fini" (leave "ok" ∷ [])
    ∷ [])

-- The built-in text is of version 4.1, and its subroutines are those above.
abbrev pub IsBuiltIn : Tree → Type 0
IsBuiltIn tree = (tree.version ≡ FourOne) × (bare (items_of tree.items) ≡ built_in)

abbrev pub BuiltInIsRead : Type 0
BuiltInIsRead = (tree : Tree) × IsTreeOf built_in_text tree × IsBuiltIn tree
