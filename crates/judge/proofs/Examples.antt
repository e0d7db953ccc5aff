-- Scripts judged by the two passes: 0, or one more than the place of the refused node, and for DOUBLE 65536 more. The tables are those of the scripts.
use Prim.Native.Nat.{ℕ, ◌+◌, ◌-◌}
use mathlib.Core.Path.{◌≡◌, refl}
use mathlib.Core.List.{List, [], ◌∷◌}
use lib.Dec.{eqb, ltb}
use lib.ListN.{length}
use Rattle.language.specs.Bytes.{bytes_of}
use Rattle.language.specs.Names.{meaning}
use Rattle.nodes.specs.Nodes.{node_at}
use Rattle.judge.specs.Names.{same_name, nine_at}
use Rattle.judge.specs.Scopes.{pick, place_at, env_at, role_at, behind_at, role_in, row_of, binds_of, row_after, inner_at, shown_at, outer_at, give, scope_step, scopes_from, scopes_of, binder_place, find_from, named_from}
use Rattle.judge.specs.Types.{note_kind, is_fun, parts_of, param_type_in, result_type, same_parts, same, arg_fits, fits_from, is_vec, is_defined, returned}
use Rattle.judge.specs.Rules.{has_kind, binder_of, read_type, bound_rule, name_type_rule, ref_type, target_type, if_rule, bools_rule, one_arg, two_args, operated, applied, app_rule, adr_rule, free_rule, is_base_type, cell_rule, single_rule, last_from, def_type_rule, part_rule, set_rule, is_proc, called, call_rule, def_by, stat_by, param_by, expr_by, own_by, is_element, has_vec, alloc_type_rule, nth_rule, len_rule, vset_rule, vec_by, body_rule, proc_rule, looped_note, either_note, if_stat_rule, while_rule, return_rule, followed, goes_with, flow_from, program_rule, block_rule}
use Rattle.judge.specs.Judge.{fine_from, ruled, refuses, note_of, answer, judge_down, verdict_of}

abbrev zeros : List ℕ → List ℕ
zeros [] = []
zeros (a ∷ l) = 0 ∷ zeros l

found : List ℕ → ℕ → ℕ
found t a = pick (eqb a 0) (λ _. 0) λ _. pick (ltb a 65537) (λ _. place_at t (a - 1) + 1) λ _. 65536 + place_at t (a - 65537) + 1

verdict : List ℕ → List ℕ → ℕ
unfolding found node_at same_name nine_at meaning env_at role_at behind_at role_in row_of binds_of row_after inner_at shown_at outer_at give scope_step scopes_from scopes_of
    binder_place find_from named_from note_kind is_fun is_defined is_vec parts_of param_type_in result_type same_parts same arg_fits fits_from has_kind binder_of read_type bound_rule
    name_type_rule ref_type target_type if_rule bools_rule one_arg two_args operated applied app_rule adr_rule free_rule is_base_type cell_rule single_rule last_from def_type_rule
    part_rule set_rule is_proc called call_rule def_by stat_by param_by expr_by is_element has_vec alloc_type_rule nth_rule len_rule vset_rule vec_by returned body_rule proc_rule looped_note either_note if_stat_rule while_rule return_rule followed goes_with flow_from program_rule block_rule own_by fine_from ruled refuses note_of answer judge_down verdict_of
verdict x t = found t (verdict_of x t (length t) (zeros t) (zeros t))

abbrev nine_bound_tree : List ℕ
nine_bound_tree =
    281474976776192 ∷ 1125904201941002 ∷ 5348063212208131 ∷ 4503655461945348 ∷ 3659252006977542 ∷ 4503685526716416 ∷ 6474031838986240 ∷
    5348136226652168 ∷ 5348153406521353 ∷ 5066687019745280 ∷ 2251954433228800 ∷ 5066725674450944 ∷ []

nine_bound : verdict (bytes_of "[FUN REC add int [x:int] (add x 1); ECHO 1]") nine_bound_tree ≡ 2
unfolding verdict
nine_bound = refl

abbrev nine_parameter_tree : List ℕ
nine_parameter_tree =
    281474976776192 ∷ 844429225230343 ∷ 5348046032338947 ∷ 4503629692141572 ∷ 3659226237173766 ∷ 4503672641814528 ∷ 5066644070072320 ∷
    2251907188391936 ∷ 5066678429810688 ∷ []

nine_parameter : verdict (bytes_of "[FUN f int [true:int] 1; ECHO 1]") nine_parameter_tree ≡ 13
unfolding verdict
nine_parameter = refl

abbrev rec_hides_var_tree : List ℕ
rec_hides_var_tree =
    281474976776192 ∷ 1970329132072970 ∷ 5348067507175427 ∷ 3940722688655365 ∷ 4503681231749120 ∷ 281578056318976 ∷ 3377807095169024 ∷
    5348153406521352 ∷ 7037011857309696 ∷ 5348183471292416 ∷ 2251980203032576 ∷ 5066751444254720 ∷ []

rec_hides_var : verdict (bytes_of "[PROC REC p [var p:int] [CALL p (adr p)]; ECHO 1]") rec_hides_var_tree ≡ 33
unfolding verdict
rec_hides_var = refl

abbrev rec_hides_tree : List ℕ
rec_hides_tree =
    281474976776192 ∷ 1125904201941001 ∷ 5348063212208131 ∷ 4503646872010756 ∷ 3659243417042950 ∷ 4503676936781824 ∷ 6474023249051648 ∷
    5348127636717576 ∷ 5066661249941504 ∷ 2251928663359488 ∷ 6474074788921344 ∷ 5348179176325132 ∷ 5066712789549056 ∷ []

rec_hides : verdict (bytes_of "[FUN REC f int [f:int] (f 1); ECHO (f 2)]") rec_hides_tree ≡ 0
unfolding verdict
rec_hides = refl

abbrev doubled_tree : List ℕ
doubled_tree =
    281474976776192 ∷ 1688854155362320 ∷ 5348050327306243 ∷ 3659213352206341 ∷ 4503646872010752 ∷ 3659239122141191 ∷ 4222197665103872 ∷
    281573761482752 ∷ 2814852846911488 ∷ 5348140521619466 ∷ 281599531483149 ∷ 2251928663490560 ∷ 5066699904647168 ∷ 281638186385408 ∷
    2251967318392832 ∷ 5066738559352832 ∷ 3377910175039488 ∷ 5348256485736466 ∷ 5066790098960403 ∷ 5348273665605632 ∷ []

doubled : verdict (bytes_of "[PROC p [x:int,x:bool] [IF x [ECHO 1] [ECHO 2]]; CALL p 1 true]") doubled_tree ≡ 65552
unfolding verdict
doubled = refl

abbrev var_function_tree : List ℕ
var_function_tree =
    281474976776192 ∷ 1407379178651654 ∷ 5348046032338947 ∷ 4785104669114368 ∷ 4503633987108869 ∷ 4503655461945344 ∷ 2251881418522624 ∷
    5066652660006912 ∷ []

var_function : verdict (bytes_of "[VAR x (int->int); ECHO 1]") var_function_tree ≡ 2
unfolding verdict
var_function = refl

abbrev var_parameter_function_tree : List ℕ
var_parameter_function_tree =
    281474976776192 ∷ 1688854155362314 ∷ 5348050327306243 ∷ 3940705508786183 ∷ 4785139028918272 ∷ 4503668346847238 ∷ 4503689821683712 ∷
    281590941351936 ∷ 2251920073359360 ∷ 5066691314712576 ∷ 2251958728196096 ∷ 5066729969418240 ∷ []

var_parameter_function : verdict (bytes_of "[PROC p [var x:(int->int)] [ECHO 1]; ECHO 2]") var_parameter_function_tree ≡ 14
unfolding verdict
var_parameter_function = refl

abbrev or_bools_tree : List ℕ
or_bools_tree =
    281474976776192 ∷ 1407379178651652 ∷ 5348046032338947 ∷ 4503629692141568 ∷ 2814801307041792 ∷ 6192513912537099 ∷ 5348106161881095 ∷
    6474027544084480 ∷ 5348131931684873 ∷ 5348144816586762 ∷ 5066678429810688 ∷ 281621006385166 ∷ 2251950138392576 ∷ 5066721379483648 ∷
    281659661287424 ∷ 2251988793294848 ∷ 5066760034189312 ∷ []

or_bools : verdict (bytes_of "[VAR x int; IF (or true (eq x 1)) [ECHO 1] [ECHO 2]]") or_bools_tree ≡ 0
unfolding verdict
or_bools = refl

abbrev procedure_as_value_tree : List ℕ
procedure_as_value_tree =
    281474976776192 ∷ 1688854155362312 ∷ 5348050327306243 ∷ 3659213352206341 ∷ 4503646872010752 ∷ 281543696580608 ∷ 2251872828588032 ∷
    5348119046782976 ∷ 3377811390267392 ∷ 5348157701488650 ∷ 5348166291423232 ∷ []

procedure_as_value : verdict (bytes_of "[PROC p [x:int] [ECHO x]; CALL p p]") procedure_as_value_tree ≡ 34
unfolding verdict
procedure_as_value = refl

abbrev procedure_echoed_tree : List ℕ
procedure_echoed_tree =
    281474976776192 ∷ 1688854155362312 ∷ 5348050327306243 ∷ 3659213352206341 ∷ 4503646872010752 ∷ 281543696580608 ∷ 2251872828588032 ∷
    5348119046782976 ∷ 2251911483424768 ∷ 5348157701488640 ∷ []

procedure_echoed : verdict (bytes_of "[PROC p [x:int] [ECHO x]; ECHO p]") procedure_echoed_tree ≡ 32
unfolding verdict
procedure_echoed = refl

abbrev procedure_rec_tree : List ℕ
procedure_rec_tree =
    281474976776192 ∷ 1970329132072983 ∷ 5348067507175427 ∷ 3659230532075525 ∷ 4503664051879936 ∷ 281560876449792 ∷ 2814839961878528 ∷
    6474027544084491 ∷ 5348131931684873 ∷ 5348144816586762 ∷ 5066678429810688 ∷ 281616711417870 ∷ 2251945843425280 ∷ 5066717084516352 ∷
    281655366320128 ∷ 2251984498327569 ∷ 5348230715932672 ∷ 3377918765039616 ∷ 5348265075671059 ∷ 6474173573758976 ∷ 5348277960572949 ∷
    5348295140442134 ∷ 5066828753666048 ∷ 3378004664778752 ∷ 5348350975016985 ∷ 5066884588240896 ∷ []

procedure_rec : verdict (bytes_of "[PROC REC p [n:int] [IF (lt n 1) [ECHO 0] [ECHO n; CALL p (sub n 1)]]; CALL p 5]") procedure_rec_tree ≡ 0
unfolding verdict
procedure_rec = refl

abbrev value_for_reference_tree : List ℕ
value_for_reference_tree =
    281474976776192 ∷ 1407379178651652 ∷ 5348046032338947 ∷ 4503629692141568 ∷ 1688901400199182 ∷ 5348097571946502 ∷ 3940752753623048 ∷
    4503711296520192 ∷ 3659307841814538 ∷ 4503741361291264 ∷ 281638186188800 ∷ 2533442294906880 ∷ 5348209241096205 ∷ 5348217831030784 ∷
    3377910174908435 ∷ 5348256485736464 ∷ 7037114937049106 ∷ 5348286550507520 ∷ 5066824458698752 ∷ 2252087577804821 ∷ 5348333795147776 ∷
    3378021844516864 ∷ 5348368154886167 ∷ 5066901768110104 ∷ 5066910358044672 ∷ []

value_for_reference : verdict (bytes_of "[VAR v int; PROC p [var a:int, b:int] [SET a b]; CALL p (adr v) 3; ECHO v; CALL p 3 3]") value_for_reference_tree ≡ 76
unfolding verdict
value_for_reference = refl

abbrev branches_differ_tree : List ℕ
branches_differ_tree =
    281474976776192 ∷ 2251804108783616 ∷ 5629525304213504 ∷ 5348067507175428 ∷ 5066614005301253 ∷ 5348097571946496 ∷ []

branches_differ : verdict (bytes_of "[ECHO (if true 1 false)]") branches_differ_tree ≡ 7
unfolding verdict
branches_differ = refl

abbrev function_of_function_tree : List ℕ
function_of_function_tree =
    281474976776192 ∷ 2251804108783616 ∷ 6473950234345472 ∷ 6473954529378319 ∷ 6755433801121806 ∷ 3659213352337415 ∷ 4503646872010752 ∷
    6755468161056768 ∷ 3659247712272394 ∷ 4503681231749120 ∷ 6474027544281088 ∷ 5348131931684876 ∷ 5348149111554061 ∷ 5348157701488640 ∷
    5066695609679872 ∷ 5066708494581760 ∷ []

function_of_function : verdict (bytes_of "[ECHO (([x:int] [y:int] (add x y) 2) 3)]") function_of_function_tree ≡ 0
unfolding verdict
function_of_function = refl

abbrev echo_bool_tree : List ℕ
echo_bool_tree =
    281474976776192 ∷ 2251804108783616 ∷ 6473950234345472 ∷ 5348054622273540 ∷ 5348071802142720 ∷ []

echo_bool : verdict (bytes_of "[ECHO (not true)]") echo_bool_tree ≡ 2
unfolding verdict
echo_bool = refl

abbrev one_argument_tree : List ℕ
one_argument_tree =
    281474976776192 ∷ 2251804108783616 ∷ 6473950234345472 ∷ 5348054622273540 ∷ 5066596825432064 ∷ []

one_argument : verdict (bytes_of "[ECHO (add 1)]") one_argument_tree ≡ 7
unfolding verdict
one_argument = refl

-- the name of the REC definition, which hides both
abbrev doubled_rec_tree : List ℕ
doubled_rec_tree =
    281474976776192 ∷ 1125904201941001 ∷ 5348063212208131 ∷ 4503646872010756 ∷ 3659243417042950 ∷ 4503676936781824 ∷ 3659269186977800 ∷
    4503702706585600 ∷ 5066674134843392 ∷ 2251937253294080 ∷ 5066708494581760 ∷ []

doubled_rec : verdict (bytes_of "[FUN REC f int [f:int,f:int] 1; ECHO 1]") doubled_rec_tree ≡ 65559
unfolding verdict
doubled_rec = refl

-- a vec of functions, behind and before a parameter that is refused
abbrev vec_behind_tree : List ℕ
vec_behind_tree =
    281474976776192 ∷ 844429225230348 ∷ 5348046032338947 ∷ 4503629692141572 ∷ 3659226237173766 ∷ 4503668346847232 ∷ 3659264892010507 ∷
    7318448179249152 ∷ 4785194863755264 ∷ 4503724181422090 ∷ 4503754246193152 ∷ 5348209241096192 ∷ 2251997383032832 ∷ 5066768624123904 ∷ []

vec_behind : verdict (bytes_of "[FUN f int [not:int, x:(vec (int -> int))] y; ECHO 1]") vec_behind_tree ≡ 13
unfolding verdict
vec_behind = refl

abbrev vec_before_tree : List ℕ
vec_before_tree =
    281474976776192 ∷ 844429225230346 ∷ 5348046032338947 ∷ 7318379459510279 ∷ 4785126144016384 ∷ 4503655461945350 ∷ 4503685526716416 ∷
    3659290661879817 ∷ 4503732771356672 ∷ 5348179176325120 ∷ 2251967318130688 ∷ 5066738559352832 ∷ []

vec_before : verdict (bytes_of "[FUN f (vec (int -> int)) [not:int] y; ECHO 1]") vec_before_tree ≡ 8
unfolding verdict
vec_before = refl

abbrev alloc_last_tree : List ℕ
alloc_last_tree =
    281474976776192 ∷ 2251804108783616 ∷ 8162800094609408 ∷ 7599871616090112 ∷ 4785151913820167 ∷ 4503681231749126 ∷ 4503711296520192 ∷
    5066682724777984 ∷ []

alloc_last : verdict (bytes_of "[ECHO (len (alloc (int -> int) 1))]") alloc_last_tree ≡ 12
unfolding verdict
alloc_last = refl

abbrev blocks_tree : List ℕ
blocks_tree =
    281474976776192 ∷ 562954248519688 ∷ 5348054622273539 ∷ 7318388049444869 ∷ 4503659756912640 ∷ 7599905975959552 ∷ 4503711296520199 ∷
    5066678429810688 ∷ 2251945843163136 ∷ 7881466852278272 ∷ 8444438280601614 ∷ 5348239305867276 ∷ 5066772919091213 ∷ 5066781509025792 ∷
    8163019138727936 ∷ 5348290845474816 ∷ []

blocks : verdict (bytes_of "[CONST b (vec int) (alloc int 2); ECHO (nth (vset b 0 7) (len b))]") blocks_tree ≡ 0
unfolding verdict
blocks = refl

abbrev blocks_of_blocks_tree : List ℕ
blocks_of_blocks_tree =
    281474976776192 ∷ 562954248519690 ∷ 5348054622273539 ∷ 7318388049444870 ∷ 7318409524346880 ∷ 4503681231749120 ∷ 7599931745828864 ∷
    7318486833954825 ∷ 4503758541160448 ∷ 5066729969418240 ∷ 2251997382901760 ∷ 7881518392016896 ∷ 7881539866918927 ∷ 5348286550507534 ∷
    5066820163731456 ∷ 5066833048633344 ∷ []

blocks_of_blocks : verdict (bytes_of "[CONST b (vec (vec int)) (alloc (vec int) 1); ECHO (nth (nth b 0) 0)]") blocks_of_blocks_tree ≡ 0
unfolding verdict
blocks_of_blocks = refl

abbrev vset_other_tree : List ℕ
vset_other_tree =
    281474976776192 ∷ 562954248519688 ∷ 5348054622273539 ∷ 7318388049444869 ∷ 4222184780201984 ∷ 7599910270926848 ∷ 4222240614776839 ∷
    5066687019745280 ∷ 2251954433097728 ∷ 8162950418923520 ∷ 8444446870536192 ∷ 5348247895801868 ∷ 5066781509025805 ∷ 5066790098960384 ∷ []

vset_other : verdict (bytes_of "[CONST b (vec bool) (alloc bool 2); ECHO (len (vset b 0 7))]") vset_other_tree ≡ 47
unfolding verdict
vset_other = refl

-- a may before a may before an always
abbrev returns_tree : List ℕ
returns_tree =
    281474976776192 ∷ 9007203549839391 ∷ 5348046032338947 ∷ 4503629692141572 ∷ 3659226237173766 ∷ 4503659756912640 ∷ 281556581548032 ∷
    2814835666976786 ∷ 6474023249182732 ∷ 5348127636717578 ∷ 5348140521619467 ∷ 5066674134843392 ∷ 281612416516111 ∷ 8725866012868608 ∷
    5066721379483648 ∷ 281659661352960 ∷ 2251988793360384 ∷ 5348235010899968 ∷ 2814977401618461 ∷ 6474164983824407 ∷ 5348269370638357 ∷
    5348282255540246 ∷ 5066815868764160 ∷ 281754151157786 ∷ 2252083283165184 ∷ 5066854523469824 ∷ 281792806060032 ∷ 8726046402412544 ∷
    5066901768110080 ∷ 8726093647183872 ∷ 5066949012750336 ∷ 2252216427610112 ∷ 6474362553171968 ∷ 5348466939133986 ∷ 5067000552357888 ∷ []

returns : verdict (bytes_of "[FUN f int [x:int] [IF (lt x 0) [RETURN 0] [ECHO x]; IF (lt x 5) [ECHO 5] [RETURN 1]; RETURN 2]; ECHO (f 1)]") returns_tree ≡ 0
unfolding verdict
returns = refl

-- at the block
abbrev after_may_tree : List ℕ
after_may_tree =
    281474976776192 ∷ 9007203549839377 ∷ 5348046032338947 ∷ 4503629692141572 ∷ 3659226237173766 ∷ 4503659756912640 ∷ 281556581548032 ∷
    2814835666976783 ∷ 5348123341750281 ∷ 281595236450316 ∷ 8725848832802816 ∷ 5066704199614464 ∷ 281642481287168 ∷ 2251971613294592 ∷
    5066742854320128 ∷ 2252010268131328 ∷ 5066781509025792 ∷ 2252048922968064 ∷ 5066820163731456 ∷ []

after_may : verdict (bytes_of "[FUN f int [x:int] [IF true [RETURN 1] [ECHO 2]; ECHO 3]; ECHO 1]") after_may_tree ≡ 20
unfolding verdict
after_may = refl

-- at the statement, before what follows it
abbrev stands_last_tree : List ℕ
stands_last_tree =
    281474976776192 ∷ 9007203549839377 ∷ 5348046032338947 ∷ 4503629692141572 ∷ 3659226237173766 ∷ 4503659756912640 ∷ 281556581548032 ∷
    2814835666976783 ∷ 5348123341750281 ∷ 281595236450316 ∷ 8725848832802816 ∷ 5066704199614464 ∷ 281642481287168 ∷ 8725896077639680 ∷
    5066751444254720 ∷ 2252018858065920 ∷ 5348265075671040 ∷ 2252057512902656 ∷ 5066828753666048 ∷ []

stands_last : verdict (bytes_of "[FUN f int [x:int] [IF true [RETURN 1] [RETURN 2]; ECHO y]; ECHO 1]") stands_last_tree ≡ 21
unfolding verdict
stands_last = refl

abbrev two_types_tree : List ℕ
two_types_tree =
    281474976776192 ∷ 9007203549839375 ∷ 5348046032338947 ∷ 4503629692141572 ∷ 3659226237173766 ∷ 4503659756912640 ∷ 281556581548032 ∷
    2814835666976768 ∷ 5348123341750281 ∷ 281595236450316 ∷ 8725848832802816 ∷ 5066704199614464 ∷ 281642481287168 ∷ 8725896077639680 ∷
    5348226420965376 ∷ 2252036037935104 ∷ 5066807278829568 ∷ []

two_types : verdict (bytes_of "[FUN f int [x:int] [IF true [RETURN 1] [RETURN true]]; ECHO 1]") two_types_tree ≡ 21
unfolding verdict
two_types = refl

abbrev may_body_tree : List ℕ
may_body_tree =
    281474976776192 ∷ 9288678526550028 ∷ 5348063212208131 ∷ 4503646872010756 ∷ 3659243417042950 ∷ 4503676936781824 ∷ 281573761417216 ∷
    3096327823556608 ∷ 5348153406521353 ∷ 281625301221376 ∷ 8725878897573888 ∷ 5348209241096192 ∷ 2252005972967424 ∷ 5066777214058496 ∷ []

may_body : verdict (bytes_of "[FUN REC f int [f:int] [WHILE true [RETURN f]]; ECHO 1]") may_body_tree ≡ 2
unfolding verdict
may_body = refl

abbrev proc_returns_tree : List ℕ
proc_returns_tree =
    281474976776192 ∷ 1688854155362312 ∷ 5348050327306243 ∷ 3659213352206341 ∷ 4503646872010752 ∷ 281543696580608 ∷ 8725797292933120 ∷
    5348127636717568 ∷ 3377819980201984 ∷ 5348166291423242 ∷ 5066699904647168 ∷ []

proc_returns : verdict (bytes_of "[PROC p [x:int] [RETURN x]; CALL p 1]") proc_returns_tree ≡ 2
unfolding verdict
proc_returns = refl

abbrev program_returns_tree : List ℕ
program_returns_tree =
    281474976776192 ∷ 8725728573128704 ∷ 5066583940530176 ∷ []

program_returns : verdict (bytes_of "[RETURN 1]") program_returns_tree ≡ 1
unfolding verdict
program_returns = refl
