-- `tests::at_state` meets its contract: one law for each way out of the tests.
use Rattle.std.proofs.Common.{rules, tests}
use Rattle.records.specs.Numerals.{Bytes}
use Rattle.reaction.proofs.Fronts.{searchable, bounded, took, no_state_way, other_way, pair_way, input_way, passed_way}
use Rattle.reaction.proofs.tests.at_state.Goals as goal

pub returns-in_default : goal.returns-in_default
returns-in_default c =
    let bytes : Bytes c.args.state.now = record { byte = λ i. (c.type_inv.state i).fits } in
    λ g o. no_state_way o _ bytes c.read_state.ensures c.args.given (search rules) c.at.ensures

pub returns-then-not-names_block : goal.returns-then-not-names_block
returns-then-not-names_block c =
    let bytes : Bytes c.args.state.now = record { byte = λ i. (c.type_inv.state i).fits } in
    λ g o. other_way o _ bytes c.read_state.ensures c.args.given c.in-Some.is c.names_block.ensures (search (rules, tests)) c.at-then-not-names_block.ensures

pub first_clash-pair-requires : goal.first_clash-pair-requires
first_clash-pair-requires c =
    let bytes : Bytes c.args.state.now = record { byte = λ i. (c.type_inv.state i).fits } in
    let o = c.requires.1 in
    let t = took o _ bytes c.read_state.ensures c.in-Some.is in
    ((c.requires.0.body, searchable o c.in-Some.held.active t.in_block), bounded o c.in-Some.held.active t.in_block)

pub returns-in-Some-pair : goal.returns-in-Some-pair
returns-in-Some-pair c =
    let bytes : Bytes c.args.state.now = record { byte = λ i. (c.type_inv.state i).fits } in
    λ g o.
    let t = took o _ bytes c.read_state.ensures c.in-Some.is in
    pair_way o _ bytes c.read_state.ensures c.args.given c.in-Some.is c.names_block.ensures (search (rules, tests)) _
    (c.first_clash-pair.ensures g.body (searchable o c.in-Some.held.active t.in_block)) c.in-Some-pair.is

pub returns-then-wrong_inputs : goal.returns-then-wrong_inputs
returns-then-wrong_inputs c =
    let bytes : Bytes c.args.state.now = record { byte = λ i. (c.type_inv.state i).fits } in
    λ g o.
    let t = took o _ bytes c.read_state.ensures c.in-Some.is in
    input_way o _ bytes c.read_state.ensures c.args.given c.in-Some.is c.names_block.ensures (search (rules, tests)) _
    (c.first_clash-pair.ensures g.body (searchable o c.in-Some.held.active t.in_block)) (search rules) c.wrong_inputs.ensures c.if-wrong_inputs.true c.at-then-wrong_inputs.ensures

pub returns : goal.returns
returns c =
    let bytes : Bytes c.args.state.now = record { byte = λ i. (c.type_inv.state i).fits } in
    λ g o.
    let t = took o _ bytes c.read_state.ensures c.in-Some.is in
    passed_way o _ bytes c.read_state.ensures c.args.given c.in-Some.is c.names_block.ensures (search (rules, tests)) _
    (c.first_clash-pair.ensures g.body (searchable o c.in-Some.held.active t.in_block)) (search rules) c.wrong_inputs.ensures c.if-wrong_inputs.false
