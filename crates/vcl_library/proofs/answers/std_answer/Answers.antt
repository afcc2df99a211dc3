use Rattle.std.proofs.Common.{arith, refl}
use Rattle.vmod_host.specs.Stored.{entry_of}
use Rattle.vmod_host.specs.declared.TheConstants.{TOLOWER, TOUPPER, INTEGER, STRLEN, PARSE, SET, GET, ISSET, DELETE, KEEP, FILTER, CLEAN, GET_STRING}
use Rattle.vcl_library.specs.Functions.{std_functions, std_signatures, jar_signatures, choice_signatures, look_signatures}
use Rattle.vcl_library.proofs.Tags.{takes-at, answers-at, none-passed}
use Rattle.vcl_library.proofs.answers.std_answer.Goals as goal

pub tolower-requires : goal.tolower-requires
unfolding std_functions
tolower-requires c = takes-at _ 0 (entry_of TOLOWER std_signatures.tolower) _ refl c.in-1.is c.requires

pub returns-in-1 : goal.returns-in-1
unfolding std_functions
returns-in-1 c = answers-at _ 0 (entry_of TOLOWER std_signatures.tolower) _ refl c.in-1.is c.tolower.result c.tolower.ensures

pub toupper-requires : goal.toupper-requires
unfolding std_functions
toupper-requires c = takes-at _ 1 (entry_of TOUPPER std_signatures.toupper) _ refl c.in-2.is c.requires

pub returns-in-2 : goal.returns-in-2
unfolding std_functions
returns-in-2 c = answers-at _ 1 (entry_of TOUPPER std_signatures.toupper) _ refl c.in-2.is c.toupper.result c.toupper.ensures

pub integer-requires : goal.integer-requires
unfolding std_functions
integer-requires c = takes-at _ 2 (entry_of INTEGER std_signatures.integer) _ refl c.in-3.is c.requires

pub returns-in-3 : goal.returns-in-3
unfolding std_functions
returns-in-3 c = answers-at _ 2 (entry_of INTEGER std_signatures.integer) _ refl c.in-3.is c.integer.result c.integer.ensures

pub strlen-requires : goal.strlen-requires
unfolding std_functions
strlen-requires c = takes-at _ 3 (entry_of STRLEN std_signatures.strlen) _ refl c.in-4.is c.requires

pub returns-in-4 : goal.returns-in-4
unfolding std_functions
returns-in-4 c = answers-at _ 3 (entry_of STRLEN std_signatures.strlen) _ refl c.in-4.is c.strlen.result c.strlen.ensures

pub parse-requires : goal.parse-requires
unfolding std_functions
parse-requires c = takes-at _ 4 (entry_of PARSE jar_signatures.parse) _ refl c.in-5.is c.requires

pub returns-in-5 : goal.returns-in-5
unfolding std_functions
returns-in-5 c = answers-at _ 4 (entry_of PARSE jar_signatures.parse) _ refl c.in-5.is c.parse.result c.parse.ensures

pub set-requires : goal.set-requires
unfolding std_functions
set-requires c = takes-at _ 5 (entry_of SET jar_signatures.set) _ refl c.in-6.is c.requires

pub returns-in-6 : goal.returns-in-6
unfolding std_functions
returns-in-6 c = answers-at _ 5 (entry_of SET jar_signatures.set) _ refl c.in-6.is c.set.result c.set.ensures

pub get-requires : goal.get-requires
unfolding std_functions
get-requires c = takes-at _ 6 (entry_of GET look_signatures.get) _ refl c.in-7.is c.requires

pub returns-in-7 : goal.returns-in-7
unfolding std_functions
returns-in-7 c = answers-at _ 6 (entry_of GET look_signatures.get) _ refl c.in-7.is c.get.result c.get.ensures

pub isset-requires : goal.isset-requires
unfolding std_functions
isset-requires c = takes-at _ 7 (entry_of ISSET look_signatures.isset) _ refl c.in-8.is c.requires

pub returns-in-8 : goal.returns-in-8
unfolding std_functions
returns-in-8 c = answers-at _ 7 (entry_of ISSET look_signatures.isset) _ refl c.in-8.is c.isset.result c.isset.ensures

pub delete-requires : goal.delete-requires
unfolding std_functions
delete-requires c = takes-at _ 8 (entry_of DELETE choice_signatures.delete) _ refl c.in-9.is c.requires

pub returns-in-9 : goal.returns-in-9
unfolding std_functions
returns-in-9 c = answers-at _ 8 (entry_of DELETE choice_signatures.delete) _ refl c.in-9.is c.delete.result c.delete.ensures

pub keep-requires : goal.keep-requires
unfolding std_functions
keep-requires c = takes-at _ 9 (entry_of KEEP choice_signatures.keep) _ refl c.in-10.is c.requires

pub returns-in-10 : goal.returns-in-10
unfolding std_functions
returns-in-10 c = answers-at _ 9 (entry_of KEEP choice_signatures.keep) _ refl c.in-10.is c.keep.result c.keep.ensures

pub filter-requires : goal.filter-requires
unfolding std_functions
filter-requires c = takes-at _ 10 (entry_of FILTER choice_signatures.filter) _ refl c.in-11.is c.requires

pub returns-in-11 : goal.returns-in-11
unfolding std_functions
returns-in-11 c = answers-at _ 10 (entry_of FILTER choice_signatures.filter) _ refl c.in-11.is c.filter.result c.filter.ensures

pub clean-requires : goal.clean-requires
unfolding std_functions
clean-requires c = takes-at _ 11 (entry_of CLEAN jar_signatures.clean) _ refl c.in-12.is c.requires

pub returns-in-12 : goal.returns-in-12
unfolding std_functions
returns-in-12 c = answers-at _ 11 (entry_of CLEAN jar_signatures.clean) _ refl c.in-12.is c.clean.result c.clean.ensures

pub get_string-requires : goal.get_string-requires
unfolding std_functions
get_string-requires c = takes-at _ 12 (entry_of GET_STRING look_signatures.get_string) _ refl c.in-13.is c.requires

pub returns-in-13 : goal.returns-in-13
unfolding std_functions
returns-in-13 c = answers-at _ 12 (entry_of GET_STRING look_signatures.get_string) _ refl c.in-13.is c.get_string.result c.get_string.ensures

pub unreachable-requires : goal.unreachable-requires
unreachable-requires c =
    none-passed c.args.tag _ (λ e. omega arith) (λ e. omega arith) (λ e. omega arith) (λ e. omega arith) (λ e. omega arith) (λ e. omega arith) (λ e. omega arith) (λ e. omega arith) (λ e. omega arith) (λ e. omega arith) (λ e. omega arith) (λ e. omega arith) (λ e. omega arith) c.requires
